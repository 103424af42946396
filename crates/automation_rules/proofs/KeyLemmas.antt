-- Elements that name a place of a list by a key: one passes exactly where, at some place, one that names it does.
use Rattle.std.proofs.Common.{◌≡◌, ◌≤◌, ◌<◌, ◌+◌, ◌-◌, ◌⊎◌, inl, inr, ℕ, suc, refl, sym, ap, ◌∙◌, arith, Bool, true, false, ◌&&◌, ◌||◌, ◌==◌, nat_eq, Some, None, List, [], ◌∷◌, filter}
use Rattle.std.specs.Prelude.{slice_get}
use Rattle.std.specs.List.{list_any, enumerate_from, AllByRecursion}
use Rattle.std.proofs.lemmas.Bool.{cases_eq, eqb-true, eq-eqb}

pub any_same : {A : Type 0} (a b : A → Bool) (xs : List A) → AllByRecursion (λ x. a x ≡ b x) xs → list_any a xs ≡ list_any b xs
any_same a b [] all = refl
any_same a b (x ∷ xs) all = rw (all.0, any_same a b xs all.1) refl

any_never : {A : Type 0} (xs : List A) → list_any (λ x. false) xs ≡ false
any_never [] = refl
any_never (x ∷ xs) = any_never xs

or_four : (a b c d : Bool) → ((a || b) || (c || d)) ≡ ((a || c) || (b || d))
or_four true b c d = refl
or_four false true true d = refl
or_four false true false d = refl
or_four false false c d = refl

any_or : {A : Type 0} (a b : A → Bool) (xs : List A) → list_any (λ x. a x || b x) xs ≡ (list_any a xs || list_any b xs)
any_or a b [] = refl
any_or a b (x ∷ xs) = ap (λ r. (a x || b x) || r) (any_or a b xs) ∙ or_four (a x) (b x) (list_any a xs) (list_any b xs)

and_false : (a : Bool) → (a && false) ≡ false
and_false true = refl
and_false false = refl

or_false : (a : Bool) → (a || false) ≡ a
or_false true = refl
or_false false = refl

pub any_and : {A : Type 0} (s : Bool) (a v : A → Bool) (xs : List A) → (s && list_any (λ x. a x && v x) xs) ≡ list_any (λ x. a x && (s && v x)) xs
any_and true a v xs = refl
any_and {A = A} false a v xs = sym (never xs) where
  never : (ys : List A) → list_any (λ x. a x && false) ys ≡ false
  never [] = refl
  never (y ∷ ys) = rw (and_false (a y), never ys) refl

-- where each element of a numbered list tells two tests alike
pub any_numbered : {X : Type 0} (a b : ℕ × X → Bool) (n : ℕ) (xs : List X) → ((i : ℕ) (x : X) → slice_get xs i ≡ Some x → a (n + i, x) ≡ b (n + i, x))
    → list_any a (enumerate_from n xs) ≡ list_any b (enumerate_from n xs)
any_numbered a b n [] same = refl
any_numbered {X = X} a b n (x ∷ xs) same = rw (first, any_numbered a b (n + 1) xs later) refl where
  here : n + 0 ≡ n
  here = omega arith

  first : a (n, x) ≡ b (n, x)
  first = ap (λ k. a (k, x)) (sym here) ∙ same 0 x refl ∙ ap (λ k. b (k, x)) here

  later : (i : ℕ) (y : X) → slice_get xs i ≡ Some y → a (n + 1 + i, y) ≡ b (n + 1 + i, y)
  later i y at =
      let next : n + 1 + i ≡ n + suc i = omega arith in
      ap (λ k. a (k, y)) next ∙ same (suc i) y at ∙ ap (λ k. b (k, y)) (sym next)

pub filter_numbered : {X : Type 0} (a b : ℕ → Bool) (n : ℕ) (xs : List X) → ((i : ℕ) (x : X) → slice_get xs i ≡ Some x → a (n + i) ≡ b (n + i))
    → filter (λ (r : ℕ × X). a r.0) (enumerate_from n xs) ≡ filter (λ (r : ℕ × X). b r.0) (enumerate_from n xs)
filter_numbered a b n [] same = refl
filter_numbered {X = X} a b n (x ∷ xs) same = rw (first, filter_numbered a b (n + 1) xs later) refl where
  here : n + 0 ≡ n
  here = omega arith

  first : a n ≡ b n
  first = ap a (sym here) ∙ same 0 x refl ∙ ap b here

  later : (i : ℕ) (y : X) → slice_get xs i ≡ Some y → a (n + 1 + i) ≡ b (n + 1 + i)
  later i y at =
      let next : n + 1 + i ≡ n + suc i = omega arith in
      ap a next ∙ same (suc i) y at ∙ ap b (sym next)

pub any_enumerated : {X : Type 0} (test : X → Bool) (n : ℕ) (xs : List X) → list_any test xs ≡ list_any (λ (r : ℕ × X). test r.1) (enumerate_from n xs)
any_enumerated test n [] = refl
any_enumerated test n (x ∷ xs) = ap (λ b. test x || b) (any_enumerated test (n + 1) xs)

not_equal : (a b : ℕ) → (a ≡ b → ⊥) → nat_eq a b ≡ false
not_equal a b ne = by (nat_eq a b) refl where
  by : (r : Bool) → nat_eq a b ≡ r → nat_eq a b ≡ false
  by false is = is
  by true is = absurd (ne (eqb-true a b is))

any_past : {X : Type 0} (k n : ℕ) (test : X → Bool) (xs : List X) → k < n → list_any (λ (r : ℕ × X). (k == r.0) && test r.1) (enumerate_from n xs) ≡ false
any_past k n test [] past = refl
any_past k n test (x ∷ xs) past = rw (not_equal k n (λ e. absurd (omega (arith, e))), any_past k (n + 1) test xs (omega arith)) refl

any_one : {X : Type 0} (k n : ℕ) (test : X → Bool) (xs : List X) (x : X) → n ≤ k → slice_get xs (k - n) ≡ Some x
    → list_any (λ (r : ℕ × X). (k == r.0) && test r.1) (enumerate_from n xs) ≡ test x
any_one k n test [] x from at = absurd (none at) where
  none : None ≡ Some x → ⊥
  none e = cc
any_one {X = X} k n test (y ∷ ys) x from at = by (cases_eq k n) (λ later there. any_one k (n + 1) test ys x later there) where
  some : (a b : X) → Some a ≡ Some b → a ≡ b
  some a b e = cc

  by : (k ≡ n) ⊎ (k ≡ n → ⊥) → (n + 1 ≤ k → slice_get ys (k - (n + 1)) ≡ Some x → list_any (λ (r : ℕ × X). (k == r.0) && test r.1) (enumerate_from (n + 1) ys) ≡ test x)
      → list_any (λ (r : ℕ × X). (k == r.0) && test r.1) (enumerate_from n (y ∷ ys)) ≡ test x
  by (inl same) more =
      let zero : k - n ≡ 0 = omega (arith, same) in
      let is : y ≡ x = some y x (sym (ap (slice_get (y ∷ ys)) zero) ∙ at) in
      rw (eq-eqb k n same, any_past k (n + 1) test ys (omega (arith, same))) (or_false (test y) ∙ ap test is)
  by (inr ne) more =
      let next : k - n ≡ suc (k - (n + 1)) = later (cases_eq k n) in
      rw (not_equal k n ne) (more (far (cases_eq k n)) (sym (ap (slice_get (y ∷ ys)) next) ∙ at)) where
        far : (k ≡ n) ⊎ (k ≡ n → ⊥) → n + 1 ≤ k
        far (inl e) = absurd (ne e)
        far (inr e) = omega arith

        later : (k ≡ n) ⊎ (k ≡ n → ⊥) → k - n ≡ suc (k - (n + 1))
        later c = let above = far c in omega arith

-- each element names a place that is there, and says there what it says alone
pub any_keyed : {A X : Type 0} (key : A → ℕ) (at_place : X → A → Bool) (alone : A → Bool) (n : ℕ) (xs : List X) (fs : List A)
    → AllByRecursion (λ f. (x : X) × ((n ≤ key f) × ((slice_get xs (key f - n) ≡ Some x) × (at_place x f ≡ alone f)))) fs
    → list_any (λ (r : ℕ × X). list_any (λ f. (key f == r.0) && at_place r.1 f) fs) (enumerate_from n xs) ≡ list_any alone fs
any_keyed {X = X} key at_place alone n xs [] all = any_never (enumerate_from n xs)
any_keyed {X = X} key at_place alone n xs (f ∷ fs) all =
    any_or (λ (r : ℕ × X). (key f == r.0) && at_place r.1 f) (λ (r : ℕ × X). list_any (λ g. (key g == r.0) && at_place r.1 g) fs) (enumerate_from n xs)
    ∙ ap (λ b. b || list_any (λ (r : ℕ × X). list_any (λ g. (key g == r.0) && at_place r.1 g) fs) (enumerate_from n xs))
    (any_one (key f) n (λ x. at_place x f) xs all.0.0 all.0.1.0 all.0.1.1.0 ∙ all.0.1.1.1)
    ∙ ap (λ b. alone f || b) (any_keyed key at_place alone n xs fs all.1)
