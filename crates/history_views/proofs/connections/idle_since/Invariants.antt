use Rattle.std.proofs.Common.{◌≡◌, take, fold}
use Rattle.history_core.specs.Connection.{idle_after}
use Rattle.history_views.proofs.connections.idle_since.Given as goal

abbrev pub invariant-loop-entry : goal.invariant-loop-entry
invariant-loop-entry l = l.since ≡ fold (idle_after l.opened.number) l.opened.at (take l.entry-index l.entries)
