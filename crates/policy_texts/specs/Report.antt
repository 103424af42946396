-- The report on policy texts that are read: their keys without effect.
use Rattle.std.specs.Prelude.{◌≡◌, ℕ, List, ◌∷◌, ◌++◌, [], map, flat_map, codes}
use Rattle.std.specs.Ordering.{nat_cmp, is_lt}
use Rattle.std.specs.Cmp.Lexicographic.{slice_cmp}
use Rattle.std.specs.List.Sorted.{IsPermutation, IsSortedBy}
use Rattle.policy_fault.specs.Words.{name_of_file}
use Rattle.policy_fault.specs.declared.fault.Ignored.{Ignored}

-- the line of a key without effect, without its line feed
abbrev pub ignored_line : Ignored → List ℕ
ignored_line key = codes "ignored " ++ (name_of_file key.file ++ (32 ∷ (key.table ++ (32 ∷ key.key))))

abbrev pub ended_line : List ℕ → List ℕ
ended_line line = line ++ 10 ∷ []

-- the lines of the keys in byte order, equal lines as often as they come, and then `ok`
pub record IsCheckReport (keys : List Ignored) (text : List ℕ) : Type 0 where
  pub lines : List (List ℕ)
  pub same : IsPermutation (map ignored_line keys) lines
  pub ordered : IsSortedBy (λ a b. is_lt (slice_cmp nat_cmp a b)) lines
  pub text_is : text ≡ flat_map ended_line lines ++ codes "ok\n"
