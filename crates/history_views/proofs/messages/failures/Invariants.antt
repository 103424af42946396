use Rattle.std.proofs.Common.{◌≡◌, take}
use Rattle.history_core.specs.Retry.{failures}
use Rattle.history_views.proofs.messages.failures.Given as goal

abbrev pub invariant-loop-entry : goal.invariant-loop-entry
invariant-loop-entry l = l.failures ≡ failures (take l.entry-index l.entries) l.id
