-- Tests of bytes for equality.
use Rattle.std.proofs.Common.{◌≡◌, ◌<◌, ◌≤◌, ℕ, List, true, false, length, get_or, take, map, sym, ap, ◌∙◌, arith, bytes_eq}
use Rattle.std.proofs.lemmas.Bool.{false_from_ne_true}
use Rattle.std.proofs.lemmas.Slice.Eq.{bytes_eq-Decides}
use Rattle.std.proofs.lemmas.List.{get_or-map, take_all}

pub equal : (xs ys : List ℕ) → xs ≡ ys → bytes_eq xs ys ≡ true
equal xs ys = (bytes_eq-Decides xs ys).1

pub equal_from : (xs ys : List ℕ) → bytes_eq xs ys ≡ true → xs ≡ ys
equal_from xs ys = (bytes_eq-Decides xs ys).0

-- lists that differ at a place differ
pub differ : (f : ℕ → ℕ) (xs ys : List ℕ) (i : ℕ) → i < length ys → (get_or xs i 0 ≡ f (get_or ys i 0) → ⊥)
    → bytes_eq xs (map f ys) ≡ false
differ f xs ys i within ne =
    false_from_ne_true (bytes_eq xs (map f ys))
    (λ t. ne (ap (λ (zs : List ℕ). get_or zs i 0) (equal_from xs (map f ys) t) ∙ get_or-map f ys i 0 0 within))

-- lists that are the same as far as they go are the same
pub same : (f : ℕ → ℕ) (xs ys : List ℕ) (i : ℕ) → length xs ≤ i → length xs ≡ length ys → take i xs ≡ map f (take i ys)
    → bytes_eq xs (map f ys) ≡ true
same f xs ys i past long e =
    equal xs (map f ys) (sym (take_all i xs past) ∙ e ∙ ap (map f) (take_all i ys (omega (arith, past, long))))
