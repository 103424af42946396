-- The tables that the code lists, as the definitions see them.
use Rattle.toml.specs.View.{table_view}
use Rattle.shaping_policy.specs.declared.tables.FileTable.{FileTable}
use Rattle.shaping_policy.specs.declared.tables.RuleTable.{RuleTable}
use Rattle.shaping_policy.specs.Tables.{PlacedTable, PlacedRule, placed}

abbrev pub seen_table : FileTable → PlacedTable
seen_table t = placed t.kind t.place t.name.now (table_view t.members.now)

abbrev pub seen_rule : RuleTable → PlacedRule
seen_rule r = record { place = r.place; number = r.number; members = table_view r.members.now }
