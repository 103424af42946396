use Rattle.std.proofs.Common.{rules, of_calls}
use Rattle.std.proofs.lemmas.Cmp.{nat_list_cmp_total}
use Rattle.std.proofs.lemmas.List.Sorted.{ranks_by, answers_always}
use Rattle.policy_core.specs.declared.mx.MxRow.{MxRow}
use Rattle.mx_table.specs.inside.Merged.{by_domain}
use Rattle.mx_table.proofs.table.in_order.Goals as goal

pub returns-clause-sorted : goal.returns-clause-sorted
returns-clause-sorted c =
    let domain = λ (r : MxRow). r.domain in
    c.sort_unstable_by.ensures.sorted by_domain (ranks_by nat_list_cmp_total domain) (answers_always _ _ _ (λ f a r q k. search (rules, of_calls)))
