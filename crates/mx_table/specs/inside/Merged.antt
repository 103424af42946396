-- Rows in the order of their domains, with those of one domain merged.
use Rattle.std.specs.Prelude.{List, [], ◌∷◌, ◌++◌, ℕ, Bool, bytes_eq, if◌then◌else◌, map}
use Rattle.policy_core.specs.Mx.{comes_before}
use Rattle.policy_core.specs.declared.mx.MxRow.{MxRow}
use Rattle.mx_table.specs.MxText.{row}

-- the order of rows by domain
abbrev pub by_domain : MxRow → MxRow → Bool
by_domain a b = comes_before a.domain b.domain

abbrev pub domains : List MxRow → List (List ℕ)
domains rows = map (λ r. r.domain) rows

-- the last row so far, merged with those behind it that have its domain, and then the rest
abbrev pub merged_behind : MxRow → List MxRow → List MxRow
merged_behind last [] = last ∷ []
merged_behind last (next ∷ more) =
    if bytes_eq last.domain next.domain then merged_behind (row last.domain (last.hosts ++ next.hosts)) more else last ∷ merged_behind next more

-- rows, with neighbours of one domain merged
abbrev pub merged_rows : List MxRow → List MxRow
merged_rows [] = []
merged_rows (first ∷ more) = merged_behind first more
