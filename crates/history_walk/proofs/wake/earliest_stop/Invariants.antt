use Rattle.std.proofs.Common.{◌≡◌, drop, fold}
use Rattle.history_core.specs.Wake.{earlier_after}
use Rattle.history_walk.proofs.wake.earliest_stop.Given as goal

abbrev pub invariant-loop-stop : goal.invariant-loop-stop
invariant-loop-stop l =
    fold (earlier_after l.t) l.first l.stops
    ≡ fold (earlier_after l.t) l.best (drop l.stop-index l.stops)
