use Rattle.std.proofs.Common.{◌≡◌, ◌==◌, drop, filter, filter_map, find, length}
use Rattle.history_core.specs.declared.entry.Entry.{Entry}
use Rattle.history_core.specs.Events.{message_in}
use Rattle.history_core.specs.Fate.{fate_of}
use Rattle.history_core.specs.History.{has_id}
use Rattle.history_views.proofs.messages.pending_with.Given as goal

abbrev pub invariant-loop-entry : goal.invariant-loop-entry
invariant-loop-entry l =
    find (has_id l.id) (filter (λ m. length (fate_of l.entries m.id) == 0) (filter_map (λ (e : Entry). message_in e.what) l.entries))
    ≡ find (has_id l.id) (filter (λ m. length (fate_of l.entries m.id) == 0) (filter_map (λ (e : Entry). message_in e.what) (drop l.entry-index l.entries)))
