-- The name of a table of a policy text: its keys joined by `.`, as `queue.example.com`.
use Rattle.std.specs.Prelude.{ℕ, ◌==◌, List, ◌∷◌, ◌++◌, length, if◌then◌else◌}

-- a table within a table, which is the empty text at the top level
abbrev pub joined : List ℕ → List ℕ → List ℕ
joined table key = if length table == 0 then key else table ++ 46 ∷ key
