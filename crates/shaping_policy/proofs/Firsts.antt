-- The first of some things by an order, and of those that have more than n up to and with them in a list.
use Rattle.std.proofs.Common.{◌≡◌, ◌∙◌, ◌+◌, ◌<◌, ◌≤◌, ◌⊎◌, inl, inr, ap, ℕ, zero, suc, List, [], ◌∷◌, length, get_or, Bool, true, false, not, cond, if◌then◌else◌, nat_lt, Option, Some, None, refl, arith}
use Rattle.std.specs.Cmp.{IsStrictWeakOrder}
use Rattle.std.specs.List.{filter, count_by}
use Rattle.std.specs.List.Sorted.{IsPermutation}
use Rattle.std.proofs.lemmas.Bool.{lt-ltb, le-ltb, ltb-true}
use Rattle.std.proofs.lemmas.List.Elements.{All-get_or}
use Rattle.std.proofs.lemmas.List.Sums.{sum_by-cons, count_by-le-length}
use Rattle.std.proofs.lemmas.List.Sorted.{All-permutation, sum_by-IsPermutation}

-- the one that comes first, of one that may be there and another
abbrev pub earlier_by : {X : Type 0} → (X → X → Bool) → Option X → X → X
earlier_by lt None x = x
earlier_by lt (Some best) x = if lt x best then x else best

abbrev pub first_by : {X : Type 0} → (X → X → Bool) → Option X → List X → Option X
first_by lt best [] = best
first_by lt best (x ∷ xs) = first_by lt (Some (earlier_by lt best x)) xs

-- the list holds it
abbrev pub Has : {X : Type 0} → X → List X → Type 0
Has x [] = ⊥
Has x (y ∷ ys) = (y ≡ x) ⊎ Has x ys

has_at : {X : Type 0} (xs : List X) (k : ℕ) (d : X) → k < length xs → Has (get_or xs k d) xs
has_at [] k d h = absurd (omega arith)
has_at (y ∷ ys) zero d h = inl refl
has_at (y ∷ ys) (suc k) d h = inr (has_at ys k d (omega arith))

-- where neither comes before the other they are the same
abbrev pub IsExact : {X : Type 0} → (X → X → Bool) → Type 0
IsExact {X} lt = (x y : X) → lt x y ≡ false → lt y x ≡ false → x ≡ y

-- nothing that is left comes before the best so far
settled : {X : Type 0} (lt : X → X → Bool) (p : X → Bool) (best : X) → ((y : X) → p y ≡ true → lt y best ≡ false)
    → (xs : List X) → first_by lt (Some best) (filter p xs) ≡ Some best
settled lt p best least [] = refl
settled {X} lt p best least (y ∷ ys) = by (p y) refl (settled lt p best least ys) where
  by : (b : Bool) → p y ≡ b → first_by lt (Some best) (filter p ys) ≡ Some best
      → first_by lt (Some best) (cond b (y ∷ filter p ys) (filter p ys)) ≡ Some best
  by true e rest = ap (λ (b : Bool). first_by lt (Some (if b then y else best)) (filter p ys)) (least y e) ∙ rest
  by false e rest = rest

earlier_twice : {X : Type 0} (lt : X → X → Bool) → IsStrictWeakOrder lt → IsExact lt → (best : Option X) (x y : X) → lt y x ≡ false
    → earlier_by lt (Some (earlier_by lt best y)) x ≡ earlier_by lt best x
earlier_twice {X} lt o exact None x y h = by (lt x y) refl where
  by : (b : Bool) → lt x y ≡ b → (if b then x else y) ≡ x
  by true e = refl
  by false e = exact y x h e
earlier_twice {X} lt o exact (Some best) x y h = by (lt y best) (lt x best) refl refl where
  same : (b : Bool) → lt x y ≡ b → (if b then x else y) ≡ x
  same true e = refl
  same false e = exact y x h e

  by : (b c : Bool) → lt y best ≡ b → lt x best ≡ c
      → (if lt x (if b then y else best) then x else (if b then y else best)) ≡ (if c then x else best)
  by true true e f = same (lt x y) refl
  by true false e f = let no : lt y best ≡ false = o.chain y x best h f in cc
  by false c e f = rw f refl

not_before : {X : Type 0} (lt : X → X → Bool) → IsStrictWeakOrder lt → (best : Option X) (x y : X) → lt y x ≡ false
    → lt y (earlier_by lt best x) ≡ false
not_before lt o None x y h = h
not_before {X} lt o (Some best) x y h = by (lt x best) refl where
  by : (b : Bool) → lt x best ≡ b → lt y (if b then x else best) ≡ false
  by true e = h
  by false e = o.chain y x best h e

-- of those that pass, one before which none comes is the first
pub first_kept : {X : Type 0} (lt : X → X → Bool) → IsStrictWeakOrder lt → IsExact lt → (p : X → Bool) (x : X) → p x ≡ true
    → ((y : X) → p y ≡ true → lt y x ≡ false) → (best : Option X) (xs : List X) → Has x xs
    → first_by lt best (filter p xs) ≡ first_by lt best (x ∷ [])
first_kept lt o exact p x passes least best [] has = absurd has
first_kept {X} lt o exact p x passes least best (y ∷ ys) has =
    by (p y) refl has (λ later start. first_kept lt o exact p x passes least start ys later) where
      here : (z : X) → z ≡ x → first_by lt (Some (earlier_by lt best z)) (filter p ys) ≡ Some (earlier_by lt best x)
      here z e = rw e (settled lt p (earlier_by lt best x) (λ w q. not_before lt o best x w (least w q)) ys)

      by : (b : Bool) → p y ≡ b → (y ≡ x) ⊎ Has x ys
          → (Has x ys → (start : Option X) → first_by lt start (filter p ys) ≡ first_by lt start (x ∷ []))
          → first_by lt best (cond b (y ∷ filter p ys) (filter p ys)) ≡ Some (earlier_by lt best x)
      by true e (inl same) rest = here y same
      by true e (inr later) rest = rest later (Some (earlier_by lt best y)) ∙ ap Some (earlier_twice lt o exact best x y (least y e))
      by false e (inl same) rest = let other : p x ≡ false = rw (← same) e in absurd cc
      by false e (inr later) rest = rest later best

-- a count of at least, and of at most, so many at the front
counts_more : {X : Type 0} (q : X → Bool) (d : X) (xs : List X) (n : ℕ) → n < length xs
    → ((i : ℕ) → i ≤ n → q (get_or xs i d) ≡ true) → n < count_by q xs
counts_more q d [] n h all = absurd (omega arith)
counts_more q d (y ∷ ys) zero h all = rw (sum_by-cons (λ x. cond (q x) 1 0) y ys, all 0 (omega arith)) (omega arith)
counts_more q d (y ∷ ys) (suc n) h all =
    let more : n < count_by q ys = counts_more q d ys n (omega arith) (λ i le. all (suc i) (omega arith)) in
    rw (sum_by-cons (λ x. cond (q x) 1 0) y ys, all 0 (omega arith)) (omega arith)

counts_fewer : {X : Type 0} (q : X → Bool) (d : X) (xs : List X) (n : ℕ)
    → ((i : ℕ) → n ≤ i → i < length xs → q (get_or xs i d) ≡ false) → count_by q xs ≤ n
counts_fewer q d [] n none = omega arith
counts_fewer q d (y ∷ ys) zero none =
    let more : count_by q ys ≤ 0 = counts_fewer q d ys 0 (λ i le below. none (suc i) (omega arith) (omega arith)) in
    rw (sum_by-cons (λ x. cond (q x) 1 0) y ys, none 0 (omega arith) (omega arith)) (omega arith)
counts_fewer {X} q d (y ∷ ys) (suc n) none =
    let more : count_by q ys ≤ n = counts_fewer q d ys n (λ i le below. none (suc i) (omega arith) (omega arith)) in
    rw (sum_by-cons (λ x. cond (q x) 1 0) y ys) (by (q y) (count_by q ys) more) where
      by : (b : Bool) (m : ℕ) → m ≤ n → cond b 1 0 + m ≤ suc n
      by true m more = omega arith
      by false m more = omega arith

-- which things have more than n of a list up to and with them
abbrev pub has_more_upto : {X : Type 0} → (X → X → Bool) → List X → ℕ → X → Bool
has_more_upto lt xs n x = nat_lt n (count_by (λ other. not (lt x other)) xs)

none_kept : {X : Type 0} (p : X → Bool) → ((x : X) → p x ≡ false) → (xs : List X) → filter p xs ≡ []
none_kept p none [] = refl
none_kept p none (x ∷ xs) = rw (none x) (none_kept p none xs)

-- a list of n and fewer has none of these
pub none_past : {X : Type 0} (lt : X → X → Bool) (xs : List X) (n : ℕ) → length xs ≤ n → filter (has_more_upto lt xs n) xs ≡ []
none_past lt xs n short = none_kept (has_more_upto lt xs n) (λ x. le-ltb _ _ (omega (arith, count_by-le-length (λ other. not (lt x other)) xs))) xs

-- in a sorted list, the one at n is the first of these
pub first_past : {X : Type 0} (lt : X → X → Bool) → IsStrictWeakOrder lt → IsExact lt → (xs sorted : List X) → IsPermutation xs sorted
    → (d : X) → ((i j : ℕ) → i ≤ j → j < length sorted → lt (get_or sorted j d) (get_or sorted i d) ≡ false)
    → (n : ℕ) → n < length sorted → (best : Option X)
    → first_by lt best (filter (has_more_upto lt xs n) xs) ≡ first_by lt best (get_or sorted n d ∷ [])
first_past {X} lt o exact xs sorted moved d far n within best =
    first_kept lt o exact (has_more_upto lt xs n) (get_or sorted n d) passes least best xs has where
      count_same : (y : X) → count_by (λ other. not (lt y other)) sorted ≡ count_by (λ other. not (lt y other)) xs
      count_same y = sum_by-IsPermutation _ xs sorted moved

      passes : has_more_upto lt xs n (get_or sorted n d) ≡ true
      passes = lt-ltb _ _ (rw (← count_same (get_or sorted n d)) (counts_more (λ other. not (lt (get_or sorted n d) other)) d sorted n within (λ i le. rw (far i n le within) refl)))

      least : (y : X) → has_more_upto lt xs n y ≡ true → lt y (get_or sorted n d) ≡ false
      least y more = by (lt y (get_or sorted n d)) refl where
        many : n < count_by (λ other. not (lt y other)) sorted
        many = rw (count_same y) (ltb-true _ _ more)

        behind : (i : ℕ) → n ≤ i → i < length sorted → lt y (get_or sorted n d) ≡ true → (b : Bool) → lt y (get_or sorted i d) ≡ b → not b ≡ false
        behind i le below e true f = refl
        behind i le below e false f = let no : lt y (get_or sorted n d) ≡ false = o.chain _ _ _ f (far n i le below) in cc

        by : (b : Bool) → lt y (get_or sorted n d) ≡ b → b ≡ false
        by true e =
            let few : count_by (λ other. not (lt y other)) sorted ≤ n = counts_fewer (λ other. not (lt y other)) d sorted n (λ i le below. behind i le below e _ refl) in
            absurd (omega (arith, many))
        by false e = refl

      has : Has (get_or sorted n d) xs
      has = All-get_or (λ y. Has y xs) sorted n d within (All-permutation (λ y. Has y xs) xs sorted moved (λ k e below. has_at xs k e below))
