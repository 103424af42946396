use Rattle.std.proofs.Common.{◌≡◌, drop, fold}
use Rattle.history_core.specs.Wake.{earlier_after}
use Rattle.history_walk.specs.inside.Marks.{order_marks_among}
use Rattle.history_walk.proofs.wake.earliest_order.Given as goal

abbrev pub invariant-loop-entry : goal.invariant-loop-entry
invariant-loop-entry l =
    fold (earlier_after l.t) l.first (order_marks_among l.entries l.t l.entries)
    ≡ fold (earlier_after l.t) l.best (order_marks_among l.entries l.t (drop l.entry-index l.entries))
