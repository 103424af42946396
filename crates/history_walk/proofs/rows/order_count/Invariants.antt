use Rattle.std.proofs.Common.{◌≡◌, ◌≤◌, ◌+◌, drop, length}
use Rattle.history_core.specs.LiveOrders.{orders}
use Rattle.history_walk.proofs.rows.order_count.Given as goal

abbrev pub invariant-loop-entry : goal.invariant-loop-entry
invariant-loop-entry l =
    (length (orders l.entries) ≡ l.count + length (orders (drop l.entry-index l.entries))) × (l.count ≤ l.entry-index)
