-- The place of a name in a list, as a scan from the end finds it.
use Rattle.std.proofs.Common.{◌≡◌, ◌+◌, ◌-◌, ◌<◌, ◌≤◌, subst, ℕ, List, [], ◌∷◌, ◌++◌, length, take, get_or, true, false, not, ◌||◌, refl, ap, arith}
use Rattle.std.specs.List.{list_any}
use Rattle.std.proofs.Math.Bool.{or-true}
use Rattle.std.proofs.lemmas.List.{take_more, length-take-le}
use Rattle.policy_toml.specs.Order.{comes_after, place_by_name}

any_after : {A : Type 0} (of : A → List ℕ) (name : List ℕ) (xs : List A) (x : A) → comes_after of name x ≡ true
    → list_any (λ y. not (comes_after of name y)) (xs ++ x ∷ []) ≡ list_any (λ y. not (comes_after of name y)) xs
any_after of name [] x e = rw e refl
any_after of name (y ∷ xs) x e = ap (λ b. not (comes_after of name y) || b) (any_after of name xs x e)

any_before : {A : Type 0} (of : A → List ℕ) (name : List ℕ) (xs : List A) (x : A) → comes_after of name x ≡ false
    → list_any (λ y. not (comes_after of name y)) (xs ++ x ∷ []) ≡ true
any_before of name [] x e = rw e refl
any_before of name (y ∷ xs) x e = rw (any_before of name xs x e, or-true) refl

-- a last domain that comes after the name changes nothing
place_after : {A : Type 0} (of : A → List ℕ) (name : List ℕ) (xs : List A) (x : A) → comes_after of name x ≡ true
    → place_by_name of name (xs ++ x ∷ []) ≡ place_by_name of name xs
place_after of name [] x e = rw e refl
place_after of name (y ∷ xs) x e = rw (any_after of name xs x e, place_after of name xs x e) refl

-- behind a last domain that does not come after the name is its place
place_before : {A : Type 0} (of : A → List ℕ) (name : List ℕ) (xs : List A) (x : A) → comes_after of name x ≡ false
    → place_by_name of name (xs ++ x ∷ []) ≡ length xs + 1
place_before of name [] x e = rw e refl
place_before of name (y ∷ xs) x e = rw (any_before of name xs x e, or-true, place_before of name xs x e) (omega arith)

-- one step of the scan, and its end
pub place_step : {A : Type 0} (of : A → List ℕ) (name : List ℕ) (ds : List A) (p : ℕ) (d : A) → 0 < p → p ≤ length ds
    → comes_after of name (get_or ds (p - 1) d) ≡ true → place_by_name of name (take (p - 1) ds) ≡ place_by_name of name (take p ds)
place_step of name ds p d positive within e =
    let back : p - 1 + 1 ≡ p = omega arith in
    let below : p - 1 < length ds = omega arith in
    subst (λ (k : ℕ). place_by_name of name (take (p - 1) ds) ≡ place_by_name of name (take k ds)) back
    (rw (take_more ds (p - 1) d below, place_after of name (take (p - 1) ds) (get_or ds (p - 1) d) e) refl)

pub place_end : {A : Type 0} (of : A → List ℕ) (name : List ℕ) (ds : List A) (p : ℕ) (d : A) → 0 < p → p ≤ length ds
    → comes_after of name (get_or ds (p - 1) d) ≡ false → place_by_name of name (take p ds) ≡ p
place_end of name ds p d positive within e =
    let back : p - 1 + 1 ≡ p = omega arith in
    let below : p - 1 < length ds = omega arith in
    let le : p - 1 ≤ length ds = omega arith in
    subst (λ (k : ℕ). place_by_name of name (take k ds) ≡ k) back
    (rw (take_more ds (p - 1) d below, place_before of name (take (p - 1) ds) (get_or ds (p - 1) d) e, length-take-le (p - 1) ds le) refl)
