use Rattle.std.proofs.Common.{◌≡◌, drop, fold}
use Rattle.history_core.specs.Wake.{earlier_after, stale_marks}
use Rattle.history_walk.specs.inside.Marks.{stale_marks_among}
use Rattle.history_walk.proofs.wake.earliest_stale.Given as goal

abbrev pub invariant-loop-entry : goal.invariant-loop-entry
invariant-loop-entry l =
    fold (earlier_after l.scene.moment) l.first (stale_marks l.scene.policy l.scene.history l.scene.moment)
    ≡ fold (earlier_after l.scene.moment) l.best (stale_marks_among l.scene (drop l.entry-index l.entries))
