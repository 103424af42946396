use Rattle.std.proofs.Common.{◌≡◌, ◌≤◌, ◌+◌, drop, length}
use Rattle.history_candidates.specs.inside.Soonest.{pending_among}
use Rattle.sending_state.proofs.messages.pending_count.Given as goal

abbrev pub invariant-loop-entry : goal.invariant-loop-entry
invariant-loop-entry l =
    (length (pending_among l.entries l.entries) ≡ l.count + length (pending_among l.entries (drop l.entry-index l.entries)))
    × (l.count ≤ l.entry-index)
