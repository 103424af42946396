use Rattle.std.proofs.Common.{◌≡◌, take}
use Rattle.history_core.specs.Retry.{due}
use Rattle.history_views.proofs.messages.due.Given as goal

abbrev pub invariant-loop-entry : goal.invariant-loop-entry
invariant-loop-entry l = l.due ≡ due (take l.entry-index l.entries) l.message
