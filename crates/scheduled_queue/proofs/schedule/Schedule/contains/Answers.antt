use Rattle.std.proofs.Common.{is_some, ap, ◌∙◌}
use Rattle.scheduled_queue.specs.Dues.{contains}
use Rattle.scheduled_queue.specs.Kept.{in_order}
use Rattle.scheduled_queue.proofs.KeptLemmas.{known}
use Rattle.scheduled_queue.proofs.schedule.Schedule.contains.Goals as goal

pub returns : goal.returns
returns c =
    let n = c.args.number in
    c.contains_key.ensures ∙ ap is_some (c.self.invariant.0.knows n) ∙ known n (in_order c.self.inside.tree)
    ∙ ap (λ w. contains n w.members) c.self.view_is
