use Rattle.std.proofs.Common.{◌∙◌, refl, Bor, List, map}
use Rattle.policy_core.specs.declared.shaping.ShapeTable.{ShapeTable}
use Rattle.policy_core.specs.PathTables.{table_layer}
use Rattle.shaping_merge.proofs.LayingLemmas.{step_of_layers, all_laid}
use Rattle.shaping_merge.proofs.merge.Merge.add_tables.Goals as goal

pub loop-table-preserved : goal.loop-table-preserved
loop-table-preserved c =
    step_of_layers (λ (table : Bor ShapeTable). table.now) table_layer c.args.tables.now c.loop-table.table-index c.table-item.result c.loop-table.self c.add.new.self
    c.loop-table-test.true c.table-item.is (rw c.as_slice.ensures at c.in_ok-add.ensures)
    ∙ c.loop-table.invariant

pub returns : goal.returns
returns c =
    all_laid (λ (tables : List (Bor ShapeTable)). map table_layer (map (λ table. table.now) tables)) refl c.args.tables.now c.loop-table.table-index _ _
    c.loop-table-test.false c.loop-table.invariant
