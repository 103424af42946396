use Rattle.std.proofs.Common.{sym, ap, ◌∙◌, arith}
use Rattle.scheduled_queue.specs.Dues.{first_due}
use Rattle.scheduled_queue.specs.Kept.{in_order}
use Rattle.scheduled_queue.proofs.KeptLemmas.{first_none, first_is, first_late}
use Rattle.scheduled_queue.proofs.schedule.Schedule.first_due.Goals as goal

pub returns-in_err-first-clause-first : goal.returns-in_err-first-clause-first
returns-in_err-first-clause-first c =
    c.from_residual.ensures
    ∙ sym (first_none c.args.t (in_order c.self.inside.tree) (sym c.first.ensures ∙ c.in_err-first.was))
    ∙ ap (λ w. first_due c.args.t w.members) c.self.view_is

pub returns-then-first-min-clause-first : goal.returns-then-first-min-clause-first
returns-then-first-min-clause-first c =
    sym (first_is c.args.t (in_order c.self.inside.tree) c.in_ok-first.first (sym c.first.ensures ∙ c.in_ok-first.was) (omega (arith, c.if-first-min.true, c.min.ensures)))
    ∙ ap (λ w. first_due c.args.t w.members) c.self.view_is

pub returns-else-first-min-clause-first : goal.returns-else-first-min-clause-first
returns-else-first-min-clause-first c =
    sym (first_late c.args.t (in_order c.self.inside.tree) c.in_ok-first.first (sym c.first.ensures ∙ c.in_ok-first.was) c.self.invariant.0.sorted
    (omega (arith, c.if-first-min.false, c.min.ensures)))
    ∙ ap (λ w. first_due c.args.t w.members) c.self.view_is
