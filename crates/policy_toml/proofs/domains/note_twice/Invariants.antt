use Rattle.std.proofs.Common.{◌≡◌}
use Rattle.std.specs.BTreeSet.{contains_text}
use Rattle.toml.specs.View.{members_view}
use Rattle.policy_toml.specs.Places.{first_of}
use Rattle.policy_toml.specs.Domains.{none_met, faults_of_twice}
use Rattle.policy_toml.proofs.domains.note_twice.Given as goal

abbrev pub invariant-loop-key : goal.invariant-loop-key
invariant-loop-key g l =
    (goal.iterator-loop-key g).can_next l.key-iterator ×
    (goal.iterator-loop-key g).is_finite l.key-iterator ×
    (first_of l.faults (faults_of_twice g.T.DomainTables.is_domain l.place (contains_text l.met) (members_view l.key-iterator)) ≡ first_of l.fn.faults (faults_of_twice g.T.DomainTables.is_domain l.place none_met (members_view l.table.entries)))
