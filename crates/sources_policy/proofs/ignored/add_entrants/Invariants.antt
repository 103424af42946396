use Rattle.std.proofs.Common.{◌≡◌, ◌++◌}
use Rattle.toml.specs.View.{members_view}
use Rattle.policy_toml.specs.Walks.{over_members}
use Rattle.sources_policy.specs.SourcesFile.{ignored_of_entrant}
use Rattle.sources_policy.proofs.ignored.add_entrants.Given as goal

abbrev pub invariant-loop-source : goal.invariant-loop-source
invariant-loop-source l =
    (goal.iterator-loop-source).can_next l.source-iterator ×
    (goal.iterator-loop-source).is_finite l.source-iterator ×
    (l.ignored.items ++ over_members (ignored_of_entrant l.place) (members_view l.source-iterator) ≡ l.fn.ignored.items ++ over_members (ignored_of_entrant l.place) (members_view l.pool.entries))
