use Rattle.std.proofs.Common.{◌≡◌, drop, fold}
use Rattle.history_core.specs.Wake.{earlier_after}
use Rattle.history_walk.specs.inside.Marks.{due_marks_among}
use Rattle.history_walk.proofs.wake.earliest_due.Given as goal

abbrev pub invariant-loop-entry : goal.invariant-loop-entry
invariant-loop-entry l =
    fold (earlier_after l.t) l.first (due_marks_among l.entries l.entries)
    ≡ fold (earlier_after l.t) l.best (due_marks_among l.entries (drop l.entry-index l.entries))
