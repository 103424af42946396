use Rattle.std.proofs.Common.{◌≡◌, map, drop}
use Rattle.policy_core.specs.PathTables.{table_layer}
use Rattle.shaping_merge.specs.inside.Laying.{laid_over}
use Rattle.shaping_merge.proofs.merge.Merge.add_tables.Given as goal

abbrev pub invariant-loop-table : goal.invariant-loop-table
invariant-loop-table l =
    laid_over l.self (map table_layer (map (λ table. table.now) (drop l.table-index l.tables))) ≡ laid_over l.fn.self (map table_layer (map (λ table. table.now) l.tables))
