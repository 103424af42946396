use Rattle.std.proofs.Common.{◌∙◌, ◌++◌, ap, map}
use Rattle.std.specs.BTreeSet.{contains_text}
use Rattle.std.specs.List.{filter}
use Rattle.policy_core.specs.PathTables.{is_provider_of}
use Rattle.shaping_merge.proofs.FirstsLemmas.{new_taken, met_left, not_met, is_met}
use Rattle.shaping_merge.proofs.tables.add_of_providers.Goals.{then-branch+in_ok-add_of_provider, else-branch}
use Rattle.shaping_merge.proofs.tables.add_of_providers.Goals as goal

pub loop-provider-preserved : goal.loop-provider-preserved
loop-provider-preserved c =
    let adds = rw c.as_str.ensures at c.in_ok-is_new.ensures.met in
    let answer = rw c.as_str.ensures at c.in_ok-is_new.ensures.answer in
    let passes = is_provider_of c.args.policy.now c.args.site.now in
    let items = c.as_slice-provider-items.result.now in
    elim c.if-branch.branch [
      | then-branch+in_ok-add_of_provider w ↦
          rw (w.tables-is, w.in_ok-add_of_provider.ensures)
          (new_taken (λ p. p.table) passes (λ p. p.name) (contains_text c.loop-provider.met) (contains_text c.is_new.new.met) items c.loop-provider.provider-index c.provider-item.result _
          c.loop-provider-test.true c.provider-item.is (not_met _ _ answer w.if-branch.true) adds
          ∙ c.loop-provider.invariant)
      | else-branch w ↦
          rw w.tables-is
          (ap (λ rest. map (λ table. table.now) c.loop-provider.tables.items ++ map (λ p. p.table) (filter passes rest))
          (met_left (λ p. p.name) (contains_text c.loop-provider.met) (contains_text c.is_new.new.met) items c.loop-provider.provider-index c.provider-item.result
          c.loop-provider-test.true c.provider-item.is (is_met _ _ answer w.if-branch.false) adds)
          ∙ c.loop-provider.invariant)
    ]
