use Rattle.std.proofs.Common.{◌≡◌, ◌++◌}
use Rattle.toml.specs.View.{members_view}
use Rattle.policy_toml.specs.Walks.{over_members}
use Rattle.sources_policy.specs.SourcesFile.{pool_at}
use Rattle.sources_policy.proofs.sources.add_pools.Given as goal

abbrev pub invariant-loop-name : goal.invariant-loop-name
invariant-loop-name l =
    (goal.iterator-loop-name).can_next l.name-iterator ×
    (goal.iterator-loop-name).is_finite l.name-iterator ×
    (l.pools.items ++ over_members pool_at (members_view l.name-iterator) ≡ l.fn.pools.items ++ over_members pool_at (members_view l.table.entries))
