use Rattle.std.proofs.Common.{◌≡◌}
use Rattle.toml.specs.View.{members_view}
use Rattle.shaping_policy.specs.RuleValues.{holds_only}
use Rattle.shaping_policy.proofs.rule_values.holds_only.Given as goal

abbrev pub invariant-loop-key : goal.invariant-loop-key
invariant-loop-key l =
    (goal.iterator-loop-key).can_next l.key-iterator ×
    (goal.iterator-loop-key).is_finite l.key-iterator ×
    (holds_only l.one l.other (members_view l.key-iterator) ≡ holds_only l.one l.other (members_view l.table.entries))
