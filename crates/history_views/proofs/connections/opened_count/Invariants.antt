use Rattle.std.proofs.Common.{◌≡◌, ◌≤◌, ◌+◌, drop, length}
use Rattle.history_core.specs.Connection.{connections}
use Rattle.history_views.proofs.connections.opened_count.Given as goal

abbrev pub invariant-loop-entry : goal.invariant-loop-entry
invariant-loop-entry l =
    (length (connections l.entries) ≡ l.count + length (connections (drop l.entry-index l.entries))) × (l.count ≤ l.entry-index)
