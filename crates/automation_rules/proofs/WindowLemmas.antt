-- So many moments lie in a window exactly where the last but so many does.
use Rattle.std.proofs.Common.{◌≡◌, ◌≤◌, ◌<◌, ◌+◌, ◌-◌, ◌⊎◌, inl, inr, ℕ, zero, suc, refl, sym, ap, ◌∙◌, arith, Bool, true, false, cond, None, List, [], ◌∷◌, ◌++◌, length, drop, filter, length-append, length-drop, count_by}
use Rattle.std.specs.Prelude.{nat_le, nat_lt, slice_get}
use Rattle.std.specs.List.{AllByRecursion}
use Rattle.std.proofs.lemmas.Bool.{cases_lt, leb-true, le-leb}
use Rattle.std.proofs.lemmas.List.Sums.{length-filter}
use Rattle.circular_buffer.specs.Buffer.{keep_last}
use Rattle.circular_buffer.proofs.Places.{slice_get-drop}
use Rattle.kumo_base.specs.Moment.{clamped}
use Rattle.automation_rules.specs.Memory.{IsAscending}
use Rattle.automation_rules.specs.inside.Last.{nth_last, passes}

abbrev IsUpward : (ℕ → Bool) → Type 0
IsUpward w = (a b : ℕ) → a ≤ b → w a ≡ true → w b ≡ true

all_pass : (w : ℕ → Bool) (x : ℕ) (xs : List ℕ) → IsUpward w → w x ≡ true → AllByRecursion (λ t. x ≤ t) xs → AllByRecursion (λ t. w t ≡ true) xs
all_pass w x [] up at above = tt
all_pass w x (y ∷ ys) up at above = (up x y above.0 at, all_pass w x ys up at above.1)

all_kept : (w : ℕ → Bool) (xs : List ℕ) → AllByRecursion (λ t. w t ≡ true) xs → filter w xs ≡ xs
all_kept w [] all = refl
all_kept w (x ∷ xs) all = rw (all.0, all_kept w xs all.1) refl

passes_at : (w : ℕ → Bool) (xs : List ℕ) (i : ℕ) → AllByRecursion (λ t. w t ≡ true) xs → i < length xs → passes w (slice_get xs i) ≡ true
passes_at w [] i all below = absurd (omega arith)
passes_at w (x ∷ xs) zero all below = all.0
passes_at w (x ∷ xs) (suc i) all below = passes_at w xs i all.1 (omega arith)

not_le : (n m : ℕ) → m < n → nat_le n m ≡ false
not_le n m below = by (nat_le n m) refl where
  by : (b : Bool) → nat_le n m ≡ b → nat_le n m ≡ false
  by false is = is
  by true is = absurd (omega (arith, leb-true n m is))

is_le : (n m : ℕ) → n ≤ m → nat_le n m ≡ true
is_le n m within = le-leb n m within

last_there : (n : ℕ) (xs : List ℕ) → n ≤ length xs → nth_last n xs ≡ slice_get xs (length xs - n)
last_there n xs within = rw (is_le n (length xs) within) refl

last_none : (n : ℕ) (xs : List ℕ) → length xs < n → nth_last n xs ≡ None
last_none n xs past = rw (not_le n (length xs) past) refl

last_all : (w : ℕ → Bool) (n : ℕ) (xs : List ℕ) → 1 ≤ n → AllByRecursion (λ t. w t ≡ true) xs → nat_le n (length xs) ≡ passes w (nth_last n xs)
last_all w n xs some all = by (cases_lt (length xs) n) where
  by : (length xs < n) ⊎ (n ≤ length xs) → nat_le n (length xs) ≡ passes w (nth_last n xs)
  by (inl past) = not_le n (length xs) past ∙ sym (ap (passes w) (last_none n xs past))
  by (inr within) = is_le n (length xs) within ∙ sym (ap (passes w) (last_there n xs within) ∙ passes_at w xs (length xs - n) all (omega arith))

last_later : (w : ℕ → Bool) (n x : ℕ) (xs : List ℕ) → 1 ≤ n → w x ≡ false → passes w (nth_last n xs) ≡ passes w (nth_last n (x ∷ xs))
last_later w n x xs some not = by (cases_lt (length xs) n) where
  first : (length xs < n) → (n ≤ length xs + 1) ⊎ (length xs + 1 < n) → passes w (nth_last n (x ∷ xs)) ≡ false
  first past (inl within) =
      let at : length (x ∷ xs) - n ≡ 0 = omega arith in
      ap (passes w) (last_there n (x ∷ xs) (omega arith) ∙ ap (slice_get (x ∷ xs)) at) ∙ not
  first past (inr far) = ap (passes w) (last_none n (x ∷ xs) (omega arith))

  split : (n ≤ length xs + 1) ⊎ (length xs + 1 < n)
  split = turned (cases_lt (length xs + 1) n) where
    turned : (length xs + 1 < n) ⊎ (n ≤ length xs + 1) → (n ≤ length xs + 1) ⊎ (length xs + 1 < n)
    turned (inl a) = inr a
    turned (inr a) = inl a

  by : (length xs < n) ⊎ (n ≤ length xs) → passes w (nth_last n xs) ≡ passes w (nth_last n (x ∷ xs))
  by (inl past) = ap (passes w) (last_none n xs past) ∙ sym (first past split)
  by (inr within) =
      let at : length (x ∷ xs) - n ≡ suc (length xs - n) = omega arith in
      ap (passes w) (last_there n xs within) ∙ sym (ap (passes w) (last_there n (x ∷ xs) (omega arith) ∙ ap (slice_get (x ∷ xs)) at))

-- for a window that later moments are in too
counted_last : (w : ℕ → Bool) (n : ℕ) (xs : List ℕ) → IsUpward w → 1 ≤ n → IsAscending xs → nat_le n (length (filter w xs)) ≡ passes w (nth_last n xs)
counted_last w n [] up some order = last_all w n [] some tt
counted_last w n (x ∷ xs) up some order = by (w x) refl (counted_last w n xs up some order.1) where
  by : (b : Bool) → w x ≡ b → nat_le n (length (filter w xs)) ≡ passes w (nth_last n xs)
      → nat_le n (length (filter w (x ∷ xs))) ≡ passes w (nth_last n (x ∷ xs))
  by true at more =
      let all : AllByRecursion (λ t. w t ≡ true) (x ∷ xs) = (at, all_pass w x xs up at order.0) in
      ap (λ ys. nat_le n (length ys)) (all_kept w (x ∷ xs) all) ∙ last_all w n (x ∷ xs) some all
  by false at more =
      ap (λ b. nat_le n (length (cond b (x ∷ filter w xs) (filter w xs)))) at ∙ more ∙ last_later w n x xs some at

pub drop_front : {A : Type 0} (n : ℕ) (xs ys : List A) → n ≤ length xs → drop n xs ++ ys ≡ drop n (xs ++ ys)
drop_front zero xs ys within = refl
drop_front (suc n) [] ys within = absurd (omega arith)
drop_front (suc n) (x ∷ xs) ys within = drop_front n xs ys (omega arith)

last_dropped : (n d : ℕ) (xs : List ℕ) → 1 ≤ n → (n ≤ length xs → d + n ≤ length xs) → (length xs < n → d ≡ 0) → nth_last n (drop d xs) ≡ nth_last n xs
last_dropped n d xs some there none = by (cases_lt (length xs) n) where
  by : (length xs < n) ⊎ (n ≤ length xs) → nth_last n (drop d xs) ≡ nth_last n xs
  by (inl past) = rw (none past) refl
  by (inr within) =
      let room = there within in
      last_there n (drop d xs) (omega (arith, length-drop d xs))
      ∙ slice_get-drop d xs (length (drop d xs) - n) (length xs - n) (omega (arith, length-drop d xs))
      ∙ sym (last_there n xs within)

kept_last : (n : ℕ) (xs : List ℕ) (t : ℕ) → 1 ≤ n → nth_last n (keep_last n xs ++ t ∷ []) ≡ nth_last n (xs ++ t ∷ [])
kept_last n xs t some =
    ap (nth_last n) (drop_front (length xs - n) xs (t ∷ []) (omega arith))
    ∙ last_dropped n (length xs - n) (xs ++ t ∷ []) some (λ w. omega (arith, length-append xs (t ∷ []))) (λ p. omega (arith, length-append xs (t ∷ [])))

later_within : (period t : ℕ) → IsUpward (λ s. nat_lt t (clamped (s + period)))
later_within period t a b order at = le-leb _ _ (omega (arith, leb-true (suc t) (clamped (a + period)) at))

pub window : (count period t : ℕ) (last moments : List ℕ) → last ≡ keep_last count moments → IsAscending (moments ++ t ∷ []) → 1 ≤ count
    → passes (λ s. nat_lt t (clamped (s + period))) (nth_last count (last ++ t ∷ [])) ≡ nat_le count (count_by (λ s. nat_lt t (clamped (s + period))) (moments ++ t ∷ []))
window count period t last moments is order some =
    let w : ℕ → Bool = λ s. nat_lt t (clamped (s + period)) in
    ap (passes w) (ap (λ l. nth_last count (l ++ t ∷ [])) is ∙ kept_last count moments t some)
    ∙ sym (counted_last w count (moments ++ t ∷ []) (later_within period t) some order)
    ∙ ap (nat_le count) (length-filter w (moments ++ t ∷ []))
