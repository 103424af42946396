use Rattle.std.proofs.Common.{◌∙◌, refl, Bor, List, map}
use Rattle.std.specs.List.{flat_map}
use Rattle.policy_core.specs.declared.shaping.ShapeTable.{ShapeTable}
use Rattle.policy_core.specs.PathTables.{source_layers}
use Rattle.shaping_merge.proofs.LayingLemmas.{step_of_lists, all_laid}
use Rattle.shaping_merge.proofs.merge.Merge.add_source_tables.Goals as goal

pub loop-table-preserved : goal.loop-table-preserved
loop-table-preserved c =
    step_of_lists (λ (table : Bor ShapeTable). table.now) (source_layers c.args.source.now) c.args.tables.now c.loop-table.table-index c.table-item.result c.loop-table.self c.add_source_table.new.self
    c.loop-table-test.true c.table-item.is c.in_ok-add_source_table.ensures
    ∙ c.loop-table.invariant

pub returns : goal.returns
returns c =
    all_laid (λ (tables : List (Bor ShapeTable)). flat_map (source_layers c.args.source.now) (map (λ table. table.now) tables)) refl c.args.tables.now c.loop-table.table-index _ _
    c.loop-table-test.false c.loop-table.invariant
