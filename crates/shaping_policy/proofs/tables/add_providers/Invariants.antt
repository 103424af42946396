use Rattle.std.proofs.Common.{◌≡◌, ◌++◌, map}
use Rattle.toml.specs.View.{members_view}
use Rattle.policy_toml.specs.Walks.{over_members}
use Rattle.shaping_policy.specs.inside.Seen.{seen_table}
use Rattle.shaping_policy.specs.Tables.{provider_tables_at}
use Rattle.shaping_policy.proofs.tables.add_providers.Given as goal

abbrev pub invariant-loop-name : goal.invariant-loop-name
invariant-loop-name l =
    (goal.iterator-loop-name).can_next l.name-iterator ×
    (goal.iterator-loop-name).is_finite l.name-iterator ×
    (map seen_table l.tables.items ++ over_members provider_tables_at (members_view l.name-iterator) ≡ map seen_table l.fn.tables.items ++ over_members provider_tables_at (members_view l.providers.entries))
