-- A search that finds nothing, and a filter that keeps nothing.
use Rattle.std.proofs.Common.{◌≡◌, ℕ, nat_le, List, [], ◌∷◌, Bool, true, false, cond, ◌||◌, Option, Some, None, find, filter, refl, ap}
use Rattle.std.specs.List.{list_any}
use Rattle.history_core.specs.Openable.{lesser, least_by}

kept_none : {A : Type 0} (x : A) (b : Bool) (found : Option A) (kept : List A) → (found ≡ None → kept ≡ []) → cond b (Some x) found ≡ None → cond b (x ∷ kept) kept ≡ []
kept_none x true found kept rest is = absurd cc
kept_none x false found kept rest is = rest is

pub none_found : {A : Type 0} (p : A → Bool) (xs : List A) → find p xs ≡ None → filter p xs ≡ []
none_found p [] is = refl
none_found p (x ∷ xs) is = kept_none x (p x) (find p xs) (filter p xs) (none_found p xs) is

found_none : {A : Type 0} (x : A) (b : Bool) (found : Option A) (kept : List A) → (kept ≡ [] → found ≡ None) → cond b (x ∷ kept) kept ≡ [] → cond b (Some x) found ≡ None
found_none x true found kept rest is = absurd cc
found_none x false found kept rest is = rest is

pub some_found : {A : Type 0} (p : A → Bool) (xs : List A) → filter p xs ≡ [] → find p xs ≡ None
some_found p [] is = refl
some_found p (x ∷ xs) is = found_none x (p x) (find p xs) (filter p xs) (some_found p xs) is

lesser_some : {A : Type 0} (r : A → ℕ) (x : A) (o : Option A) → lesser r x o ≡ None → ⊥
lesser_some r x None is = cc
lesser_some r x (Some y) is = either (nat_le (r x) (r y)) is
  where
    either : (b : Bool) → cond b (Some x) (Some y) ≡ None → ⊥
    either true e = cc
    either false e = cc

least_none : {A : Type 0} (r : A → ℕ) (ys : List A) → least_by r ys ≡ None → ys ≡ []
least_none r [] is = refl
least_none r (y ∷ ys) is = absurd (lesser_some r y (least_by r ys) is)

any_kept : {A : Type 0} (p : A → Bool) (xs : List A) → filter p xs ≡ [] → list_any p xs ≡ false
any_kept p [] is = refl
any_kept p (x ∷ xs) is = here x (p x) (filter p xs) (list_any p xs) (any_kept p xs) is
  where
    here : {A : Type 0} (y : A) (b : Bool) (kept : List A) (any : Bool) → (kept ≡ [] → any ≡ false) → cond b (y ∷ kept) kept ≡ [] → (b || any) ≡ false
    here y true kept any rest e = absurd cc
    here y false kept any rest e = rest e

none_kept : {A : Type 0} (p : A → Bool) (xs : List A) → list_any p xs ≡ false → filter p xs ≡ []
none_kept p [] is = refl
none_kept p (x ∷ xs) is = here x (p x) (filter p xs) (list_any p xs) (none_kept p xs) is
  where
    here : {A : Type 0} (y : A) (b : Bool) (kept : List A) (any : Bool) → (any ≡ false → kept ≡ []) → (b || any) ≡ false → cond b (y ∷ kept) kept ≡ []
    here y true kept any rest e = absurd cc
    here y false kept any rest e = rest e

-- there is no least of those that pass a test exactly where none passes
pub no_least : {A : Type 0} (r : A → ℕ) (p : A → Bool) (xs : List A) → least_by r (filter p xs) ≡ None → list_any p xs ≡ false
no_least r p xs is = any_kept p xs (least_none r (filter p xs) is)

pub least_of_none : {A : Type 0} (r : A → ℕ) (p : A → Bool) (xs : List A) → list_any p xs ≡ false → least_by r (filter p xs) ≡ None
least_of_none r p xs is = ap (least_by r) (none_kept p xs is)
