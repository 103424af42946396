use Rattle.std.proofs.Common.{◌≡◌, drop, fold}
use Rattle.history_core.specs.Wake.{earlier_after}
use Rattle.history_walk.specs.inside.Marks.{age_marks_among}
use Rattle.history_walk.proofs.wake.earliest_age.Given as goal

abbrev pub invariant-loop-entry : goal.invariant-loop-entry
invariant-loop-entry l =
    fold (earlier_after l.t) l.first (age_marks_among l.policy l.entries l.entries)
    ≡ fold (earlier_after l.t) l.best (age_marks_among l.policy l.entries (drop l.entry-index l.entries))
