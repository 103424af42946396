-- Lists that are cut at the first byte of one value.
use Rattle.std.proofs.Common.{◌≡◌, ◌<◌, ◌≤◌, ◌+◌, ℕ, List, [], ◌∷◌, ◌++◌, Bool, true, false, not, ◌==◌, length, get_or, take, drop, Some, None, refl, sym, ap, ◌∙◌, arith, eq-eqb, cond, nat_lt, get_or-take, length-take}
use Rattle.std.proofs.lemmas.List.{take_at, drop_at, append_assoc, length_push}
use Rattle.std.proofs.lemmas.List.Elements.{All-from_get_or}
use Rattle.std.proofs.lemmas.List.Folds.{list_any_none, list_any-append}
use Rattle.std.proofs.lemmas.List.Sums.{prefix_len-le-length, fails_before_first, passes_at_first, split_at_first}
use Rattle.std.proofs.lemmas.Bool.Decides.{nat_tests}
use Rattle.std.proofs.lemmas.Bool.{or_parts, or_right}
use Rattle.kumo_base.proofs.MarkLemmas.{none_at, one_at}
use Rattle.std.specs.List.{list_any, before_first, after_first, position_or_len, position}

stands_at : (c : ℕ) (xs : List ℕ) (t : Bool) → list_any (λ b. b == c) xs ≡ true
    → nat_lt (position_or_len (λ b. b == c) xs) (length xs) ≡ t
    → position_or_len (λ b. b == c) xs < length xs
stands_at c xs true has test = grind (arith, nat_tests)
stands_at c xs false has test =
    let past : length xs ≤ position_or_len (λ b. b == c) xs = grind (arith, nat_tests) in
    let all : position_or_len (λ b. b == c) xs ≡ length xs = omega (arith, past, prefix_len-le-length (λ b. not (b == c)) xs) in
    let none = none_at c xs all in
    absurd cc

same_byte : (b c : ℕ) → (b == c) ≡ true → b ≡ c
same_byte b c h = grind (arith, nat_tests)

-- a list that has such a byte is what stands before the first, that byte, and what stands after it
pub cut : (c : ℕ) (xs : List ℕ) → list_any (λ b. b == c) xs ≡ true
    → (xs ≡ before_first (λ b. b == c) xs ++ (c ∷ after_first (λ b. b == c) xs))
    × (list_any (λ b. b == c) (before_first (λ b. b == c) xs) ≡ false)
cut c xs has =
    let within = stands_at c xs _ has refl in
    let here : get_or xs (position_or_len (λ b. b == c) xs) 0 ≡ c = same_byte _ c (passes_at_first (λ b. b == c) xs 0 within) in
    let place = position_or_len (λ b. b == c) xs in
    let inside : (k : ℕ) → k < length (take place xs) → (get_or (take place xs) k 0 == c) ≡ false = λ k l.
    let below : k < place = omega (arith, l, length-take place xs) in
    ap (λ b. b == c) (get_or-take place xs k 0 below) ∙ fails_before_first (λ b. b == c) xs k 0 below in (
      split_at_first (λ b. b == c) xs 0 within
          ∙ ap (λ b. before_first (λ b. b == c) xs ++ (b ∷ after_first (λ b. b == c) xs)) here,
      list_any_none (λ b. b == c) (take place xs) (All-from_get_or (λ b. (b == c) ≡ false) (take place xs) 0 inside),
    )

-- the first place that passes, by the test of its existence
absent_by : (c : ℕ) (xs : List ℕ) (t : Bool) → nat_lt (position_or_len (λ b. b == c) xs) (length xs) ≡ t
    → cond t (Some (position_or_len (λ b. b == c) xs)) None ≡ None → list_any (λ b. b == c) xs ≡ false
absent_by c xs true test is = absurd cc
absent_by c xs false test is =
    let past : length xs ≤ position_or_len (λ b. b == c) xs = grind (arith, nat_tests) in
    none_at c xs (omega (arith, past, prefix_len-le-length (λ b. not (b == c)) xs))

pub absent : (c : ℕ) (xs : List ℕ) → position (λ b. b == c) xs ≡ None → list_any (λ b. b == c) xs ≡ false
absent c xs is = absent_by c xs _ refl is

no_place_by : (c : ℕ) (xs : List ℕ) (t : Bool) → list_any (λ b. b == c) xs ≡ false
    → nat_lt (position_or_len (λ b. b == c) xs) (length xs) ≡ t
    → cond t (Some (position_or_len (λ b. b == c) xs)) None ≡ None
no_place_by c xs true none test = let has = one_at c xs (grind (arith, nat_tests)) in absurd cc
no_place_by c xs false none test = refl

pub no_place : (c : ℕ) (xs : List ℕ) → list_any (λ b. b == c) xs ≡ false → position (λ b. b == c) xs ≡ None
no_place c xs none = no_place_by c xs _ none refl

place_at : (c : ℕ) (xs ys : List ℕ) → list_any (λ b. b == c) xs ≡ false
    → position_or_len (λ b. b == c) (xs ++ (c ∷ ys)) ≡ length xs
place_at c [] ys none = rw (eq-eqb c c refl) refl
place_at c (x ∷ xs) ys none =
    let parts = or_parts (x == c) _ none in
    let rest = place_at c xs ys parts.1 in
    rw (parts.0, rest) (omega arith)

-- the first byte of a value stands behind what has none
pub cut_is : (c : ℕ) (xs ys : List ℕ) → list_any (λ b. b == c) xs ≡ false
    → (before_first (λ b. b == c) (xs ++ (c ∷ ys)) ≡ xs) × (after_first (λ b. b == c) (xs ++ (c ∷ ys)) ≡ ys)
    × (list_any (λ b. b == c) (xs ++ (c ∷ ys)) ≡ true)
cut_is c xs ys none =
    let at = place_at c xs ys none in (
      ap (λ n. take n (xs ++ (c ∷ ys))) at ∙ take_at xs (c ∷ ys) (length xs) refl,
      ap (λ n. drop (n + 1) (xs ++ (c ∷ ys))) at
          ∙ ap (λ (zs : List ℕ). drop (length xs + 1) zs) (sym (append_assoc xs (c ∷ []) ys))
          ∙ drop_at (xs ++ (c ∷ [])) ys (length xs + 1) (length_push xs c),
      rw (list_any-append, eq-eqb c c refl) (or_right (list_any (λ b. b == c) xs) true refl),
    )
