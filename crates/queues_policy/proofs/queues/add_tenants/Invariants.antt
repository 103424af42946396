use Rattle.std.proofs.Common.{◌≡◌, ◌++◌}
use Rattle.toml.specs.View.{members_view}
use Rattle.policy_toml.specs.Walks.{over_members}
use Rattle.queues_policy.specs.QueuesFile.{tenant_layer_at}
use Rattle.queues_policy.proofs.queues.add_tenants.Given as goal

abbrev pub invariant-loop-name : goal.invariant-loop-name
invariant-loop-name l =
    (goal.iterator-loop-name).can_next l.name-iterator ×
    (goal.iterator-loop-name).is_finite l.name-iterator ×
    (l.layers.items ++ over_members tenant_layer_at (members_view l.name-iterator) ≡ l.fn.layers.items ++ over_members tenant_layer_at (members_view l.tenants.entries))
