use Rattle.std.proofs.Common.{◌≡◌, ◌∙◌, ℕ, rules, of_calls, sym, ap, true, List, [], map, find, Some, option_map, bytes_eq}
use Rattle.std.specs.Ordering.{nat_cmp}
use Rattle.std.specs.Cmp.Lexicographic.{slice_cmp}
use Rattle.std.proofs.lemmas.Fn.{always_returns_same}
use Rattle.policy_core.specs.declared.mx.MxRow.{MxRow}
use Rattle.policy_core.specs.Mx.{ascend, hosts_in}
use Rattle.policy_core.proofs.MxLemmas.{domains_ascend, searchable, found, not_found}
use Rattle.policy_core.proofs.mx.MxTable.hosts.Goals as goal

abbrev domain_of : MxRow → List ℕ
domain_of row = row.domain

no_row : MxRow
no_row = record { domain = []; hosts = [] }

pub returns-in-Ok : goal.returns-in-Ok
returns-in-Ok c =
    let text = c.args.domain.now in
    let rows = c.as_slice-rows.result.now in
    let same : rows ≡ c.args.self.now = c.as_slice-rows.ensures ∙ c.self.view_is in
    let up : ascend (map domain_of rows) ≡ true = rw c.as_slice-rows.ensures (domains_ascend _ c.self.invariant) in
    let equal = c.in-Ok.ensures.position (λ row. slice_cmp nat_cmp row.domain text) (always_returns_same _ _ _ (λ a r f k. search (rules, of_calls))) in
    let row = c.index-rows-place.result in
    let here : find (λ r. bytes_eq r.domain text) rows ≡ Some row =
    found domain_of rows text c.in-Ok.place row up c.in-Ok.ensures.bound (equal row) ∙ ap Some (sym c.index-rows-place.is) in
    ap Some (c.as_slice.ensures ∙ ap (λ (r : MxRow). r.hosts) (sym c.index-rows-place.is)) ∙ sym (ap (λ rs. hosts_in rs text) (sym same) ∙ ap (option_map (λ r. r.hosts)) here)

pub returns-in-Err : goal.returns-in-Err
returns-in-Err c =
    let text = c.args.domain.now in
    let rows = c.as_slice-rows.result.now in
    let same : rows ≡ c.args.self.now = c.as_slice-rows.ensures ∙ c.self.view_is in
    let up : ascend (map domain_of rows) ≡ true = rw c.as_slice-rows.ensures (domains_ascend _ c.self.invariant) in
    let parts = c.in-Err.ensures.position (λ row. slice_cmp nat_cmp row.domain text) (always_returns_same _ _ _ (λ a r f k. search (rules, of_calls))) in
    sym (ap (λ rs. hosts_in rs text) (sym same) ∙ ap (option_map (λ r. r.hosts)) (not_found domain_of rows text c.in-Err.field-0 no_row (parts (searchable domain_of rows text up))))
