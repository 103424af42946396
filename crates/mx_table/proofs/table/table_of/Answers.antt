use Rattle.std.proofs.Common.{◌∙◌, ap}
use Rattle.mx_table.specs.inside.Merged.{domains}
use Rattle.mx_table.proofs.MergeLemmas.{joins_rows, is_table}
use Rattle.mx_table.proofs.table.table_of.Goals as goal

pub invariant_of-result : goal.invariant_of-result
invariant_of-result c =
    let made = c.in_ok-finished.ensures in
    rw c.of.ensures (is_table c.in_order.result.items _ c.in_order.ensures.sorted (made.domains ∙ ap domains c.in_ok-merged.ensures) made.order)

pub returns : goal.returns
returns c =
    let made = c.in_ok-finished.ensures in
    rw c.of.ensures (joins_rows _ c.in_order.result.items _ c.in_order.ensures.permutation (rw (← c.in_ok-merged.ensures) made.joins))
