use Rattle.std.proofs.Common.{◌≡◌, drop, fold, map}
use Rattle.history_core.specs.Wake.{earlier_after}
use Rattle.history_walk.specs.inside.Marks.{rate_marks_among}
use Rattle.history_walk.proofs.wake.earliest_rate.Given as goal

abbrev pub invariant-loop-path : goal.invariant-loop-path
invariant-loop-path l =
    fold (earlier_after l.scene.moment) l.first (rate_marks_among l.scene (map (λ k. k.path) l.paths))
    ≡ fold (earlier_after l.scene.moment) l.best (rate_marks_among l.scene (map (λ k. k.path) (drop l.path-index l.paths)))
