use Rattle.std.proofs.Common.{◌≡◌, drop}
use Rattle.history_core.specs.History.{message_with}
use Rattle.history_views.proofs.messages.message_with.Given as goal

abbrev pub invariant-loop-entry : goal.invariant-loop-entry
invariant-loop-entry l = message_with l.entries l.id ≡ message_with (drop l.entry-index l.entries) l.id
