use Rattle.std.proofs.Common.{◌≡◌, drop}
use Rattle.std.specs.List.{list_any}
use Rattle.history_core.specs.History.{messages, has_id}
use Rattle.history_views.proofs.messages.has_message.Given as goal

abbrev pub invariant-loop-entry : goal.invariant-loop-entry
invariant-loop-entry l =
    list_any (has_id l.id) (messages l.entries) ≡ list_any (has_id l.id) (messages (drop l.entry-index l.entries))
