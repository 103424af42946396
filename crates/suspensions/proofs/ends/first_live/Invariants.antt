use Rattle.std.proofs.Common.{take}
use Rattle.suspensions.specs.inside.Question.{is_met}
use Rattle.suspensions.specs.inside.Least.{IsLeast, passes}
use Rattle.suspensions.proofs.ends.first_live.Given as goal

abbrev pub invariant-loop-ending : goal.invariant-loop-ending
invariant-loop-ending l =
    IsLeast (λ e. e.number) (passes l.t (λ g. is_met l.question g.order) l.book) (take l.ending-index l.ending-items) l.first
