-- The first line of a text, by the place of its line feed.
use Rattle.std.proofs.Common.{◌≡◌, ◌<◌, ◌≤◌, ◌==◌, ◌+◌, ℕ, List, [], ◌∷◌, Bool, true, false, cond, nat_lt, Some, None, length, take, drop, refl, ap, ◌∙◌, arith}
use Rattle.std.proofs.lemmas.Bool.Decides.{nat_tests}
use Rattle.std.proofs.lemmas.List.Splits.{slice_split_first, slice_split_none}
use Rattle.std.proofs.lemmas.List.Sums.{fails_before_first}
use Rattle.std.proofs.lemmas.Option.{same_Some}
use Rattle.std.specs.Str.Lines.{lines, lines_of_parts, strip_carriage_return}
use Rattle.std.specs.List.{onto_first, slice_split, position_or_len, position}

-- where a test first holds, at a place or nowhere, the parts between such places begin so
abbrev BeginsAt : (ℕ → Bool) → List ℕ → ℕ → Type 0
BeginsAt p xs i = (slice_split p xs ≡ take i xs ∷ slice_split p (drop (i + 1) xs)) × (i < length xs)

begins_at : (p : ℕ → Bool) (xs : List ℕ) (b : Bool) (i : ℕ) → nat_lt (position_or_len p xs) (length xs) ≡ b
    → cond b (Some (position_or_len p xs)) None ≡ Some i → BeginsAt p xs i
begins_at p xs true i test is =
    let at : position_or_len p xs ≡ i = same_Some _ _ is in
    let below : position_or_len p xs < length xs = grind (arith, nat_tests) in
    (slice_split_first p xs 0 below ∙ ap (λ k. take k xs ∷ slice_split p (drop (k + 1) xs)) at, omega (arith, at))
begins_at p xs false i test is = absurd cc

one_part : (p : ℕ → Bool) (xs : List ℕ) (b : Bool) → nat_lt (position_or_len p xs) (length xs) ≡ b
    → cond b (Some (position_or_len p xs)) None ≡ None → slice_split p xs ≡ xs ∷ []
one_part p xs true test is = absurd cc
one_part p xs false test is =
    let past : length xs ≤ position_or_len p xs = grind (arith, nat_tests) in
    slice_split_none p xs (λ k d h. fails_before_first p xs k d (omega arith))

some_part_of : (x : ℕ) (b : Bool) (xs : List (List ℕ))
    → (y : List ℕ) × (ys : List (List ℕ)) × (cond b ([] ∷ xs) (onto_first x xs) ≡ y ∷ ys)
some_part_of x true xs = ([], xs, refl)
some_part_of x false [] = (x ∷ [], [], refl)
some_part_of x false (z ∷ zs) = (x ∷ z, zs, refl)

-- there is always a part
some_part : (p : ℕ → Bool) (xs : List ℕ) → (y : List ℕ) × (ys : List (List ℕ)) × (slice_split p xs ≡ y ∷ ys)
some_part p [] = ([], [], refl)
some_part p (x ∷ xs) = some_part_of x (p x) (slice_split p xs)

-- up to the line feed stands the first line
pub lines_at : (text : List ℕ) (i : ℕ) → position (λ b. b == 10) text ≡ Some i
    → (lines text ≡ strip_carriage_return (take i text) ∷ lines (drop (i + 1) text)) × (i < length text)
lines_at text i is =
    let first = begins_at (λ b. b == 10) text _ i refl is in
    let rest = some_part (λ b. b == 10) (drop (i + 1) text) in
    (rw (first.0, rest.2) refl, first.1)

-- with no line feed what is not empty is one line
pub lines_without : (text : List ℕ) → position (λ b. b == 10) text ≡ None → lines text ≡ cond (length text == 0) [] (text ∷ [])
lines_without text is = ap lines_of_parts (one_part (λ b. b == 10) text _ refl is)
