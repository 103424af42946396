-- Lists in byte order of names.
use Rattle.std.specs.Prelude.{ℕ, ◌+◌, List, [], ◌∷◌, Bool, not, if◌then◌else◌}
use Rattle.std.specs.List.{list_any, insert}
use Rattle.std.specs.Ordering.{nat_cmp, is_lt}
use Rattle.std.specs.Cmp.Lexicographic.{slice_cmp}

abbrev pub comes_after : {A : Type 0} → (A → List ℕ) → List ℕ → A → Bool
comes_after name_of name item = is_lt (slice_cmp nat_cmp name (name_of item))

-- how many items there are up to and with the last that does not come after a name
abbrev pub place_by_name : {A : Type 0} → (A → List ℕ) → List ℕ → List A → ℕ
place_by_name name_of name [] = 0
place_by_name name_of name (item ∷ more) =
    if list_any (λ other. not (comes_after name_of name other)) (item ∷ more) then 1 + place_by_name name_of name more else 0

-- a list with an item at its place
unfoldable pub with_named : {A : Type 0} → (A → List ℕ) → A → List A → List A
with_named name_of item items = insert items (place_by_name name_of (name_of item) items) item
