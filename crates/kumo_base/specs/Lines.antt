-- The lines of a text that are not empty, with their numbers from 1. A line ends at LF, a CR directly before it is
-- dropped; what stands after the last LF is a line where it is not empty, and keeps its CR.
use Rattle.std.specs.Prelude.{ℕ, ◌+◌, ◌==◌, List, [], ◌∷◌, length, if◌then◌else◌}
use Rattle.std.specs.Str.Lines.{lines}

-- the lines that are not empty, where the first has the number n
abbrev pub numbered_from : ℕ → List (List ℕ) → List (ℕ × List ℕ)
numbered_from n [] = []
numbered_from n (line ∷ more) =
    if length line == 0 then numbered_from (n + 1) more else (n, line) ∷ numbered_from (n + 1) more

abbrev pub numbered_lines : List ℕ → List (ℕ × List ℕ)
numbered_lines text = numbered_from 1 (lines text)

-- a text that is being read line by line: what is left of it, and the number of the first line there
pub record Numbering : Type 0 where
  pub number : ℕ
  pub rest : List ℕ

-- the lines that are left
abbrev pub left : Numbering → List (ℕ × List ℕ)
left l = numbered_from l.number (lines l.rest)
