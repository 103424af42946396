use Rattle.std.proofs.Common.{◌≡◌, codes}
use Rattle.toml.specs.View.{members_view, table_view}
use Rattle.policy_toml.specs.Places.{first_of}
use Rattle.policy_toml.specs.Walks.{over_members, members_at}
use Rattle.sources_policy.specs.SourcesFile.{faults_of_entrant}
use Rattle.sources_policy.proofs.faults.note_entrants.Given as goal

abbrev pub invariant-loop-source : goal.invariant-loop-source
invariant-loop-source l =
    (goal.iterator-loop-source).can_next l.source-iterator ×
    (goal.iterator-loop-source).is_finite l.source-iterator ×
    (first_of l.faults (over_members (faults_of_entrant (members_at (codes "source") (table_view l.document)) l.place) (members_view l.source-iterator)) ≡ first_of l.fn.faults (over_members (faults_of_entrant (members_at (codes "source") (table_view l.document)) l.place) (members_view l.pool.entries)))
