-- Whether a list has an element that passes: through maps and filters, and from a place of a list of rules on.
use Rattle.std.proofs.Common.{◌≡◌, ◌<◌, ◌+◌, ℕ, zero, suc, arith, refl, sym, ap, ◌∙◌, Bool, true, false, ◌&&◌, ◌||◌, List, [], ◌∷◌, length, get_or, drop, drop-cons, filter, map, add-one}
use Rattle.std.specs.List.{list_any, enumerate_from}

pub any-map : {A B : Type 0} (test : B → Bool) (f : A → B) (xs : List A) → list_any test (map f xs) ≡ list_any (λ x. test (f x)) xs
any-map test f [] = refl
any-map test f (x ∷ xs) = ap (λ b. test (f x) || b) (any-map test f xs)

pub any-filter : {A : Type 0} (test keep : A → Bool) (xs : List A) → list_any test (filter keep xs) ≡ list_any (λ x. keep x && test x) xs
any-filter test keep [] = refl
any-filter test keep (x ∷ xs) = by (keep x) refl (any-filter test keep xs) where
  by : (b : Bool) → keep x ≡ b → list_any test (filter keep xs) ≡ list_any (λ x. keep x && test x) xs
      → list_any test (filter keep (x ∷ xs)) ≡ list_any (λ x. keep x && test x) (x ∷ xs)
  by true is more = rw (is, more) refl
  by false is more = rw (is, more) refl

-- one rule more
pub any_from : {A : Type 0} (test : ℕ × A → Bool) (xs : List A) (i : ℕ) (x : A) → i < length xs → x ≡ get_or xs i x
    → list_any test (enumerate_from (i + 1) (drop i xs)) ≡ (test (i + 1, x) || list_any test (enumerate_from (i + 1 + 1) (drop (i + 1) xs)))
any_from test xs i x below at =
    ap (λ ys. list_any test (enumerate_from (i + 1) ys)) (drop-cons xs i x below ∙ ap (λ n. get_or xs i x ∷ drop n xs) (sym (add-one i)))
    ∙ ap (λ y. test (i + 1, y) || list_any test (enumerate_from (i + 1 + 1) (drop (i + 1) xs))) (sym at)

-- the same of a test of the number alone
pub any_number : {A : Type 0} (test : ℕ → Bool) (n i : ℕ) (xs : List A) → i < length xs
    → list_any (λ (r : ℕ × A). test r.0) (enumerate_from n (drop i xs))
    ≡ (test n || list_any (λ (r : ℕ × A). test r.0) (enumerate_from (n + 1) (drop (i + 1) xs)))
any_number test n i [] below = absurd (omega arith)
any_number test n zero (x ∷ xs) below = refl
any_number {A = A} test n (suc i) (x ∷ xs) below =
    any_number test n i xs (omega arith)
    ∙ ap (λ k. test n || list_any (λ (r : ℕ × A). test r.0) (enumerate_from (n + 1) (drop k (x ∷ xs)))) shifted where
      shifted : suc (i + 1) ≡ suc i + 1
      shifted = omega arith

-- one more that may be there, in front of the rest
pub or_more : (a b more all : Bool) → all ≡ (a || (b || more)) → all ≡ ((a || b) || more)
or_more true b more all is = is
or_more false b more all is = is
