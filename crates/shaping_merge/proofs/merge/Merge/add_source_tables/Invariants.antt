use Rattle.std.proofs.Common.{◌≡◌, map, drop}
use Rattle.std.specs.List.{flat_map}
use Rattle.policy_core.specs.PathTables.{source_layers}
use Rattle.shaping_merge.specs.inside.Laying.{laid_over}
use Rattle.shaping_merge.proofs.merge.Merge.add_source_tables.Given as goal

abbrev pub invariant-loop-table : goal.invariant-loop-table
invariant-loop-table l =
    laid_over l.self (flat_map (source_layers l.source) (map (λ table. table.now) (drop l.table-index l.tables)))
    ≡ laid_over l.fn.self (flat_map (source_layers l.source) (map (λ table. table.now) l.tables))
