use Rattle.std.proofs.Common.{◌≡◌, take}
use Rattle.history_core.specs.Connection.{busy_with}
use Rattle.history_views.proofs.connections.busy_with.Given as goal

abbrev pub invariant-loop-entry : goal.invariant-loop-entry
invariant-loop-entry l = l.busy ≡ busy_with (take l.entry-index l.entries) l.conn
