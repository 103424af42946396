use Rattle.std.proofs.Common.{◌≡◌, ◌++◌}
use Rattle.toml.specs.View.{members_view}
use Rattle.policy_toml.specs.Walks.{over_members}
use Rattle.sources_policy.specs.SourcesFile.{ignored_of_pool}
use Rattle.sources_policy.proofs.ignored.add_pools.Given as goal

abbrev pub invariant-loop-name : goal.invariant-loop-name
invariant-loop-name l =
    (goal.iterator-loop-name).can_next l.name-iterator ×
    (goal.iterator-loop-name).is_finite l.name-iterator ×
    (l.ignored.items ++ over_members (ignored_of_pool) (members_view l.name-iterator) ≡ l.fn.ignored.items ++ over_members (ignored_of_pool) (members_view l.pools.entries))
