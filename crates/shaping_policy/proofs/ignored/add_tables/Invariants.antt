use Rattle.std.proofs.Common.{◌≡◌, ◌++◌, drop, map}
use Rattle.std.specs.List.{flat_map}
use Rattle.shaping_policy.specs.inside.Seen.{seen_table}
use Rattle.shaping_policy.specs.ShapingFile.{ignored_of_table}
use Rattle.shaping_policy.proofs.ignored.add_tables.Given as goal

abbrev pub invariant-loop-table : goal.invariant-loop-table
invariant-loop-table l =
    l.ignored.items ++ flat_map ignored_of_table (map seen_table (drop l.table-index l.tables)) ≡ l.fn.ignored.items ++ flat_map ignored_of_table (map seen_table l.tables)
