use Rattle.std.proofs.Common.{◌≡◌, ◌++◌}
use Rattle.std.specs.Vec.Iter.{into_iter_items}
use Rattle.mx_table.specs.inside.Merged.{merged_rows, merged_behind}
use Rattle.mx_table.proofs.table.merged_rows.Given as goal

abbrev pub invariant-loop-row : goal.invariant-loop-row
invariant-loop-row l = merged_rows l.fn.rows.items ≡ l.done.items ++ merged_behind l.last (into_iter_items l.row-iterator)
