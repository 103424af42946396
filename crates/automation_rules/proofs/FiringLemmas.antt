-- Firings that end in order: which of them are not over, and whether the last one is.
use Rattle.std.proofs.Common.{◌≡◌, ◌≤◌, ◌<◌, ◌-◌, ◌⊎◌, inl, inr, ℕ, zero, suc, refl, sym, ap, subst, ◌∙◌, arith, Bool, true, false, ◌||◌, cond, List, [], ◌∷◌, ◌++◌, length, drop, filter, get_or, nat_le}
use Rattle.std.specs.List.{AllByRecursion, list_any}
use Rattle.std.specs.List.Sorted.{IsPartitionedBy, IsPartitionPoint}
use Rattle.std.proofs.lemmas.List.{get_or_default}
use Rattle.std.proofs.lemmas.Bool.{cases_lt, leb-true, le-leb, false≢true}
use Rattle.automation_rules.specs.declared.firing.Firing.{Firing}
use Rattle.automation_rules.specs.Memory.{IsAscending, is_live, ends_of, last_end}
use Rattle.automation_rules.specs.inside.Noting.{without_over}

lives : (t : ℕ) (f : Firing) → t < f.end → is_live t f ≡ true
lives t f below = le-leb (suc t) f.end (omega arith)

pub is_lower : (t : ℕ) (f : Firing) → is_live t f ≡ true → t < f.end
is_lower t f is = omega (arith, leb-true (suc t) f.end is)

pub is_over : (t : ℕ) (f : Firing) → f.end ≤ t → is_live t f ≡ false
is_over t f below = by (is_live t f) refl where
  by : (b : Bool) → is_live t f ≡ b → is_live t f ≡ false
  by false is = is
  by true is = absurd (omega (arith, leb-true (suc t) f.end is))

-- what ends at e or later, at a place
end_at : (e : ℕ) (fs : List Firing) (i : ℕ) (d : Firing) → AllByRecursion (λ u. e ≤ u) (ends_of fs) → i < length fs → e ≤ (get_or fs i d).end
end_at e [] i d above below = absurd (omega arith)
end_at e (f ∷ fs) zero d above below = above.0
end_at e (f ∷ fs) (suc i) d above below = end_at e fs i d above.1 (omega arith)

pub ends_in_order : (fs : List Firing) (i j : ℕ) (d : Firing) → IsAscending (ends_of fs) → i ≤ j → j < length fs → (get_or fs i d).end ≤ (get_or fs j d).end
ends_in_order [] i j d order before below = absurd (omega arith)
ends_in_order (f ∷ fs) zero zero d order before below = omega arith
ends_in_order (f ∷ fs) zero (suc j) d order before below = end_at f.end fs j d order.0 (omega arith)
ends_in_order (f ∷ fs) (suc i) zero d order before below = absurd (omega arith)
ends_in_order (f ∷ fs) (suc i) (suc j) d order before below = ends_in_order fs i j d order.1 (omega arith) (omega arith)

-- whether the last one is not over tells whether any is
all_over : (t : ℕ) (fs : List Firing) → ((i : ℕ) (d : Firing) → i < length fs → (get_or fs i d).end ≤ t) → list_any (is_live t) fs ≡ false
all_over t [] over = refl
all_over t (f ∷ fs) over = rw (is_over t f (over 0 f (omega arith)), all_over t fs (λ i d below. over (suc i) d (omega arith))) refl

any_at : (t : ℕ) (fs : List Firing) (i : ℕ) (d : Firing) → i < length fs → is_live t (get_or fs i d) ≡ true → list_any (is_live t) fs ≡ true
any_at t [] i d below is = absurd (omega arith)
any_at t (f ∷ fs) zero d below is = ap (λ b. b || list_any (is_live t) fs) is
any_at t (f ∷ fs) (suc i) d below is = ap (λ b. is_live t f || b) (any_at t fs i d (omega arith) is) ∙ or_true (is_live t f) where
  or_true : (b : Bool) → (b || true) ≡ true
  or_true true = refl
  or_true false = refl

pub last_tells : (t : ℕ) (fs : List Firing) (x : Firing) → IsAscending (ends_of fs) → 0 < length fs → x ≡ get_or fs (length fs - 1) x
    → is_live t x ≡ list_any (is_live t) fs
last_tells t fs x order some at = by (cases_lt t x.end) where
  last : (i : ℕ) (d : Firing) → i < length fs → (get_or fs i d).end ≤ x.end
  last i d below =
      let here = ends_in_order fs i (length fs - 1) d order (omega arith) (omega arith) in
      let same = ap (λ (f : Firing). f.end) (get_or_default fs (length fs - 1) d x (omega arith) ∙ sym at) in
      omega (arith, here, same)

  by : (t < x.end) ⊎ (x.end ≤ t) → is_live t x ≡ list_any (is_live t) fs
  by (inl below) =
      lives t x below ∙ sym (any_at t fs (length fs - 1) x (omega arith) (ap (is_live t) (sym at) ∙ lives t x below))
  by (inr past) = is_over t x past ∙ sym (all_over t fs (λ i d below. omega (arith, last i d below)))

-- those from a place on, where those before it are over and those from it on are not
all_live : (t : ℕ) (fs : List Firing) → ((i : ℕ) (d : Firing) → i < length fs → t < (get_or fs i d).end) → filter (is_live t) fs ≡ fs
all_live t [] live = refl
all_live t (f ∷ fs) live =
    rw (lives t f (live 0 f (omega arith)), all_live t fs (λ i d below. live (suc i) d (omega arith))) refl

split_live : (t : ℕ) (fs : List Firing) (i : ℕ) → ((k : ℕ) (d : Firing) → k < i → (get_or fs k d).end ≤ t)
    → ((k : ℕ) (d : Firing) → i ≤ k → k < length fs → t < (get_or fs k d).end) → drop i fs ≡ filter (is_live t) fs
split_live t [] zero over live = refl
split_live t [] (suc i) over live = refl
split_live t (f ∷ fs) zero over live = sym (all_live t (f ∷ fs) (λ k d below. live k d (omega arith) below))
split_live t (f ∷ fs) (suc i) over live =
    split_live t fs i (λ k d below. over (suc k) d (omega arith)) (λ k d from below. live (suc k) d (omega arith) (omega arith))
    ∙ sym (ap (λ b. cond b (f ∷ filter (is_live t) fs) (filter (is_live t) fs)) (is_over t f (over 0 f (omega arith))))

le_false : (a b : ℕ) → nat_le a b ≡ false → b < a
le_false a b is = by (cases_lt b a) where
  by : (b < a) ⊎ (a ≤ b) → b < a
  by (inl below) = below
  by (inr above) = absurd (false≢true (sym is ∙ le-leb a b above))

pub parted_live : (t : ℕ) (fs : List Firing) (i : ℕ) → IsPartitionPoint (λ f. nat_le f.end t ≡ true) (λ f. nat_le f.end t ≡ false) fs i
    → drop i fs ≡ filter (is_live t) fs
parted_live t fs i point =
    split_live t fs i (λ k d below. leb-true _ _ (point.0 k d (omega arith) below)) (λ k d from below. le_false _ _ (point.1 k d from below))

pub parted_by_end : (t : ℕ) (fs : List Firing) → IsAscending (ends_of fs) → IsPartitionedBy (λ f. nat_le f.end t) fs
parted_by_end t fs order i j d before below is = le-leb _ _ (omega (arith, ends_in_order fs i j d order before below, leb-true _ _ is))

-- the first of them ends first
none_by : (u : ℕ) (fs : List Firing) → AllByRecursion (λ e. u < e) (ends_of fs) → list_any (λ f. nat_le f.end u) fs ≡ false
none_by u [] later = refl
none_by u (f ∷ fs) later = rw (not_by, none_by u fs later.1) refl where
  not_by : nat_le f.end u ≡ false
  not_by = by (nat_le f.end u) refl where
    by : (b : Bool) → nat_le f.end u ≡ b → nat_le f.end u ≡ false
    by false is = is
    by true is = absurd (omega (arith, leb-true f.end u is, later.0))

later_than : (u e : ℕ) (es : List ℕ) → u < e → AllByRecursion (λ w. e ≤ w) es → AllByRecursion (λ w. u < w) es
later_than u e [] below above = tt
later_than u e (x ∷ es) below above = (omega (arith, above.0), later_than u e es below above.1)

pub first_tells : (u i : ℕ) (fs : List Firing) (x : Firing) → IsAscending (ends_of fs) → i < length fs → x ≡ get_or fs i x
    → nat_le x.end u ≡ list_any (λ f. nat_le f.end u) (drop i fs)
first_tells u i [] x order below at = absurd (omega arith)
first_tells u (suc i) (f ∷ fs) x order below at = first_tells u i fs x order.1 (omega arith) at
first_tells u zero (f ∷ fs) x order below at = ap (λ (g : Firing). nat_le g.end u) at ∙ by (nat_le f.end u) refl where
  by : (b : Bool) → nat_le f.end u ≡ b → nat_le f.end u ≡ (nat_le f.end u || list_any (λ f. nat_le f.end u) fs)
  by true is = rw is refl
  by false is = is ∙ sym (rw (is, none_by u fs (later_than u f.end (ends_of fs) (le_false f.end u is) order.0)) refl)

-- the end of the last one
pub last_end_is : (fs : List Firing) (x : Firing) → 0 < length fs → x ≡ get_or fs (length fs - 1) x → x.end ≡ last_end fs
last_end_is [] x some at = absurd (omega arith)
last_end_is (f ∷ []) x some at = ap (λ (g : Firing). g.end) at
last_end_is (f ∷ (g ∷ fs)) x some at =
    let next : suc (suc (length fs)) - 1 ≡ suc (suc (length fs) - 1) = omega arith in
    last_end_is (g ∷ fs) x (omega arith) (at ∙ ap (λ n. get_or (f ∷ (g ∷ fs)) n x) next)

pub last_end-push : (fs : List Firing) (f : Firing) → last_end (fs ++ f ∷ []) ≡ f.end
last_end-push [] f = refl
last_end-push (g ∷ []) f = refl
last_end-push (g ∷ (h ∷ fs)) f = last_end-push (h ∷ fs) f

-- a firing behind others that end no later
below_last : (e : ℕ) (fs : List Firing) → AllByRecursion (λ u. e ≤ u) (ends_of fs) → IsAscending (ends_of fs) → 0 < length fs → e ≤ last_end fs
below_last e [] above order some = absurd (omega arith)
below_last e (f ∷ []) above order some = above.0
below_last e (f ∷ (g ∷ fs)) above order some = below_last e (g ∷ fs) above.1 order.1 (omega arith)

all_push : (e u : ℕ) (fs : List Firing) (f : Firing) → AllByRecursion (λ u. e ≤ u) (ends_of fs) → e ≤ f.end → AllByRecursion (λ u. e ≤ u) (ends_of (fs ++ f ∷ []))
all_push e u [] f above below = (below, tt)
all_push e u (g ∷ fs) f above below = (above.0, all_push e u fs f above.1 below)

pub ascending_push : (fs : List Firing) (f : Firing) → IsAscending (ends_of fs) → last_end fs ≤ f.end → IsAscending (ends_of (fs ++ f ∷ []))
ascending_push [] f order below = (tt, tt)
ascending_push (g ∷ []) f order below = ((below, tt), (tt, tt))
ascending_push (g ∷ (h ∷ fs)) f order below =
    let least = below_last g.end (h ∷ fs) order.0 order.1 (omega arith) in
    (all_push g.end 0 (h ∷ fs) f order.0 (omega arith), ascending_push (h ∷ fs) f order.1 below)

pub ascending_without : (t : ℕ) (fs : List Firing) → IsAscending (ends_of fs) → IsAscending (ends_of (without_over t fs))
ascending_without t [] order = tt
ascending_without t (f ∷ fs) order = by (is_live t f) refl (ascending_without t fs order.1) where
  by : (b : Bool) → is_live t f ≡ b → IsAscending (ends_of (without_over t fs)) → IsAscending (ends_of (without_over t (f ∷ fs)))
  by true is more = rw is order
  by false is more = rw is more

-- the same of a list that is told by what was done to it
pub ascending_noted : (t : ℕ) (fs gs hs : List Firing) (f : Firing) → hs ≡ without_over t gs → gs ≡ fs ++ f ∷ [] → IsAscending (ends_of fs) → last_end fs ≤ f.end
    → IsAscending (ends_of hs)
ascending_noted t fs gs hs f is made order below =
    subst (λ ks. IsAscending (ends_of ks)) (sym (is ∙ ap (without_over t) made)) (ascending_without t (fs ++ f ∷ []) (ascending_push fs f order below))
