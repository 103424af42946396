use Rattle.std.proofs.Common.{◌≡◌, ◌==◌, drop, filter, filter_map, find, length}
use Rattle.history_core.specs.declared.entry.Entry.{Entry}
use Rattle.history_core.specs.Events.{message_in}
use Rattle.history_core.specs.Fate.{fate_of}
use Rattle.history_core.specs.Candidates.{is_delayable}
use Rattle.history_candidates.proofs.sweep.first_delayable.Given as goal

abbrev pub invariant-loop-entry : goal.invariant-loop-entry
invariant-loop-entry l =
    find (is_delayable l.policy l.entries l.t) (filter (λ m. length (fate_of l.entries m.id) == 0) (filter_map (λ (e : Entry). message_in e.what) (l.entries)))
    ≡ find (is_delayable l.policy l.entries l.t) (filter (λ m. length (fate_of l.entries m.id) == 0) (filter_map (λ (e : Entry). message_in e.what) (drop l.entry-index l.entries)))
