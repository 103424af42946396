use Rattle.std.proofs.Common.{◌≡◌, ◌≤◌, ◌+◌, drop}
use Rattle.sending_state.specs.inside.Among.{at_work_among}
use Rattle.sending_state.proofs.paths.at_work_among.Given as goal

abbrev pub invariant-loop-entry : goal.invariant-loop-entry
invariant-loop-entry l =
    (at_work_among l.scene l.entries ≡ l.count + at_work_among l.scene (drop l.entry-index l.entries)) × (l.count ≤ l.entry-index)
