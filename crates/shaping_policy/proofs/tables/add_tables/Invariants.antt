use Rattle.std.proofs.Common.{◌≡◌, ◌++◌, map}
use Rattle.toml.specs.View.{members_view}
use Rattle.policy_toml.specs.Walks.{over_members}
use Rattle.shaping_policy.specs.inside.Seen.{seen_table}
use Rattle.shaping_policy.specs.Tables.{tables_at}
use Rattle.shaping_policy.proofs.tables.add_tables.Given as goal

abbrev pub invariant-loop-key : goal.invariant-loop-key
invariant-loop-key l =
    (goal.iterator-loop-key).can_next l.key-iterator ×
    (goal.iterator-loop-key).is_finite l.key-iterator ×
    (map seen_table l.tables.items ++ over_members tables_at (members_view l.key-iterator) ≡ map seen_table l.fn.tables.items ++ over_members tables_at (members_view l.document.entries))
