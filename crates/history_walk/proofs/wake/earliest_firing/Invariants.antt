use Rattle.std.proofs.Common.{◌≡◌, drop, fold}
use Rattle.history_core.specs.Wake.{earlier_after}
use Rattle.history_walk.specs.inside.Marks.{firing_marks_among}
use Rattle.history_walk.proofs.wake.earliest_firing.Given as goal

abbrev pub invariant-loop-firing : goal.invariant-loop-firing
invariant-loop-firing l =
    fold (earlier_after l.t) l.first (firing_marks_among l.t l.firings)
    ≡ fold (earlier_after l.t) l.best (firing_marks_among l.t (drop l.firing-index l.firings))
