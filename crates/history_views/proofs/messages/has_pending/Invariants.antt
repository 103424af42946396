use Rattle.std.proofs.Common.{◌≡◌, ◌==◌, drop, filter, length}
use Rattle.history_core.specs.Fate.{fate_of, pending}
use Rattle.history_core.specs.History.{messages}
use Rattle.history_views.proofs.messages.has_pending.Given as goal

abbrev pub invariant-loop-entry : goal.invariant-loop-entry
invariant-loop-entry l =
    pending l.entries ≡ filter (λ m. length (fate_of l.entries m.id) == 0) (messages (drop l.entry-index l.entries))
