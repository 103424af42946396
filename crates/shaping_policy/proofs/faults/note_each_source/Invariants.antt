use Rattle.std.proofs.Common.{◌≡◌}
use Rattle.toml.specs.View.{members_view}
use Rattle.policy_toml.specs.Places.{first_of}
use Rattle.policy_toml.specs.Walks.{over_members}
use Rattle.shaping_policy.specs.Faults.{faults_of_source}
use Rattle.shaping_policy.proofs.faults.note_each_source.Given as goal

abbrev pub invariant-loop-name : goal.invariant-loop-name
invariant-loop-name l =
    (goal.iterator-loop-name).can_next l.name-iterator ×
    (goal.iterator-loop-name).is_finite l.name-iterator ×
    (first_of l.faults (over_members (faults_of_source l.place) (members_view l.name-iterator)) ≡ first_of l.fn.faults (over_members (faults_of_source l.place) (members_view l.sources.entries)))
