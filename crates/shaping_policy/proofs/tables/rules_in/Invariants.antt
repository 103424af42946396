use Rattle.std.proofs.Common.{◌≡◌, ◌++◌, drop, map}
use Rattle.shaping_policy.specs.inside.Seen.{seen_rule, seen_table}
use Rattle.shaping_policy.specs.Tables.{rules_in}
use Rattle.shaping_policy.proofs.tables.rules_in.Given as goal

abbrev pub invariant-loop-table : goal.invariant-loop-table
invariant-loop-table l =
    map seen_rule l.rules.items ++ rules_in (map seen_table (drop l.table-index l.tables)) ≡ rules_in (map seen_table l.tables)
