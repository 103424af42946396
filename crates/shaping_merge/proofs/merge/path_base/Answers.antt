use Rattle.std.proofs.Common.{◌∙◌, ap, map}
use Rattle.policy_core.specs.PathTables.{base_of, merged, layers_for}
use Rattle.shaping_merge.proofs.LayingLemmas.{laid_both}
use Rattle.shaping_merge.proofs.merge.path_base.Goals as goal

pub returns : goal.returns
unfolding base_of
returns c =
    let first = rw c.as_slice.ensures.value at c.in_ok-add_tables.ensures in
    let last = rw c.as_slice-2.ensures.value at c.in_ok-add_source_tables.ensures in
    c.into_base.ensures
    ∙ laid_both c.new-merge.result c.add_tables.new.self c.add_source_tables.new.self (map (λ table. table.now) c.in_ok-tables.tables.items) c.args.source.now c.new-merge.ensures first last
    ∙ ap (λ tables. merged (layers_for tables c.args.source.now)) c.in_ok-tables.ensures
