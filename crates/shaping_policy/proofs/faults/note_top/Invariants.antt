use Rattle.std.proofs.Common.{◌≡◌}
use Rattle.toml.specs.View.{members_view}
use Rattle.policy_toml.specs.Places.{first_of}
use Rattle.policy_toml.specs.Walks.{over_members}
use Rattle.shaping_policy.specs.Faults.{faults_at_top}
use Rattle.shaping_policy.proofs.faults.note_top.Given as goal

abbrev pub invariant-loop-key : goal.invariant-loop-key
invariant-loop-key l =
    (goal.iterator-loop-key).can_next l.key-iterator ×
    (goal.iterator-loop-key).is_finite l.key-iterator ×
    (first_of l.faults (over_members faults_at_top (members_view l.key-iterator)) ≡ first_of l.fn.faults (over_members faults_at_top (members_view l.document.entries)))
