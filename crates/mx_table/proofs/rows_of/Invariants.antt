use Rattle.std.proofs.Common.{◌≡◌, [], length}
use Rattle.kumo_base.specs.Lines.{numbered_lines, left}
use Rattle.mx_table.specs.MxText.{rows_from}
use Rattle.mx_table.proofs.rows_of.Given as goal

abbrev pub invariant-loop-number : goal.invariant-loop-number
invariant-loop-number l = rows_from [] (numbered_lines l.text) ≡ rows_from l.rows.items (left l.lines)

abbrev pub decreases-loop-number : goal.decreases-loop-number
decreases-loop-number l = length (left l.lines)
