use Rattle.std.proofs.Common.{◌≡◌, drop}
use Rattle.history_core.specs.Connection.{connection_with}
use Rattle.history_views.proofs.connections.connection_with.Given as goal

abbrev pub invariant-loop-entry : goal.invariant-loop-entry
invariant-loop-entry l = connection_with l.entries l.conn ≡ connection_with (drop l.entry-index l.entries) l.conn
