use Rattle.std.proofs.Common.{◌≡◌, true, false, is_some, sym, ap, ◌∙◌, subst, arith}
use Rattle.indexmap.specs.IndexMap.{index_map_len}
use Rattle.scheduled_queue.specs.declared.due.Due.{Due}
use Rattle.scheduled_queue.specs.Dues.{contains, without}
use Rattle.scheduled_queue.specs.Kept.{in_order, IsKept}
use Rattle.scheduled_queue.proofs.KeptLemmas.{kept_without, same_without, without_absent, known, one_less}
use Rattle.scheduled_queue.proofs.schedule.Schedule.remove.Goals as goal

pub returns-in_default-clause-found : goal.returns-in_default-clause-found
returns-in_default-clause-found c =
    let n = c.args.number in
    ap is_some (sym c.in_default.is ∙ c.swap_remove.ensures.value ∙ c.self.invariant.0.knows n) ∙ known n (in_order c.self.inside.tree)
    ∙ ap (λ w. contains n w.members) c.self.view_is

pub returns-in_default-clause-members : goal.returns-in_default-clause-members
returns-in_default-clause-members c =
    let n = c.args.number in
    let members = in_order c.self.inside.tree in
    let absent : contains n members ≡ false =
    sym (known n members) ∙ ap is_some (sym (c.self.invariant.0.knows n) ∙ sym c.swap_remove.ensures.value ∙ c.in_default.is) in
    sym (without_absent n members absent) ∙ ap (λ w. without n w.members) c.self.view_is

pub invariant_of-self-2 : goal.invariant_of-self-2
invariant_of-self-2 c =
    let n = c.args.number in
    let dues = c.self.inside.dues in
    let left = c.swap_remove.new.self in
    let members = in_order c.self.inside.tree in
    let is = c.self.invariant.0 in
    let member : Due = record { due = c.in-Some.due; number = n } in
    let there = sym (is.knows n) ∙ sym c.swap_remove.ensures.value ∙ c.in-Some.is in
    let has : contains n members ≡ true = sym (known n members) ∙ ap is_some there in
    let len = one_less c.swap_remove.result c.in-Some.due (index_map_len left) (index_map_len dues) c.in-Some.is c.swap_remove.ensures.len in
    let kept = kept_without dues left n members is has c.swap_remove.ensures.updates.0 len in
    let rest = c.remove-removed.ensures ∙ same_without member members is.distinct there in
    (subst (λ l. IsKept left l) (sym rest) kept, omega (arith, c.self.invariant.1, len, c.keep.ensures.within, c.keep.ensures.room))

pub returns-clause-found : goal.returns-clause-found
returns-clause-found c =
    let n = c.args.number in
    ap is_some (sym c.in-Some.is ∙ c.swap_remove.ensures.value ∙ c.self.invariant.0.knows n) ∙ known n (in_order c.self.inside.tree)
    ∙ ap (λ w. contains n w.members) c.self.view_is

pub returns-clause-members : goal.returns-clause-members
returns-clause-members c =
    let n = c.args.number in
    let members = in_order c.self.inside.tree in
    let is = c.self.invariant.0 in
    let member : Due = record { due = c.in-Some.due; number = n } in
    let there = sym (is.knows n) ∙ sym c.swap_remove.ensures.value ∙ c.in-Some.is in
    c.remove-removed.ensures ∙ same_without member members is.distinct there ∙ ap (λ w. without n w.members) c.self.view_is
