use Rattle.std.proofs.Common.{◌≡◌, ◌++◌}
use Rattle.toml.specs.View.{members_view}
use Rattle.policy_toml.specs.Walks.{over_members}
use Rattle.shaping_policy.specs.ShapingFile.{ignored_at_rule_key}
use Rattle.shaping_policy.proofs.ignored.add_rule_keys.Given as goal

abbrev pub invariant-loop-key : goal.invariant-loop-key
invariant-loop-key l =
    (goal.iterator-loop-key).can_next l.key-iterator ×
    (goal.iterator-loop-key).is_finite l.key-iterator ×
    (l.ignored.items ++ over_members (ignored_at_rule_key l.place) (members_view l.key-iterator) ≡ l.fn.ignored.items ++ over_members (ignored_at_rule_key l.place) (members_view l.members.entries))
