use Rattle.std.proofs.Common.{◌≡◌, ◌++◌}
use Rattle.toml.specs.View.{members_view}
use Rattle.policy_toml.specs.Walks.{over_members}
use Rattle.queues_policy.specs.QueuesFile.{campaign_at}
use Rattle.queues_policy.proofs.queues.campaigns_of.Given as goal

abbrev pub invariant-loop-key : goal.invariant-loop-key
invariant-loop-key l =
    (goal.iterator-loop-key).can_next l.key-iterator ×
    (goal.iterator-loop-key).is_finite l.key-iterator ×
    (l.campaigns.items ++ over_members campaign_at (members_view l.key-iterator) ≡ over_members campaign_at (members_view l.tenant.entries))
