use Rattle.std.proofs.Common.{◌∙◌, ap, sym, refl, [], ◌∷◌}
use Rattle.std.proofs.lemmas.List.{map-append}
use Rattle.std.proofs.lemmas.List.Folds.{list_all-append}
use Rattle.policy_core.specs.declared.mx.MxRow.{MxRow}
use Rattle.policy_core.specs.Mx.{has_hosts}
use Rattle.mx_table.specs.inside.Merged.{domains}
use Rattle.mx_table.proofs.MergeLemmas.{joins_none, joins_more, both_true}
use Rattle.mx_table.proofs.table.finished.Goals as goal

pub loop-row-init : goal.loop-row-init
loop-row-init c = record {
  domains = ap domains c.new-done.ensures.items;
  order = rw c.new-done.ensures.items refl;
  joins = joins_none _ c.new-done.ensures.items;
}

pub loop-row-preserved : goal.loop-row-preserved
loop-row-preserved c =
    let done = c.loop-row.done.items in
    let row = c.in_ok-in_table.field-0 in
    let made = c.in_ok-in_table.ensures in
    rw c.in_ok-push.ensures.items record {
      domains = map-append (λ (r : MxRow). r.domain) done (row ∷ []) ∙ rw (c.loop-row.invariant.domains, made.domain) (sym (map-append (λ (r : MxRow). r.domain) c.loop-row.yielded (c.in-Some.row ∷ [])));
      order = list_all-append (λ (r : MxRow). has_hosts r.hosts) done (row ∷ []) ∙ both_true _ _ c.loop-row.invariant.order (both_true _ _ made.order refl);
      joins = joins_more done _ row _ c.loop-row.invariant.joins made.domain made.hosts;
    }
