use Rattle.std.proofs.Common.{◌≡◌, ◌++◌}
use Rattle.toml.specs.View.{members_view}
use Rattle.policy_toml.specs.Walks.{over_members}
use Rattle.sources_policy.specs.SourcesFile.{entrant_at}
use Rattle.sources_policy.proofs.sources.entrants_of.Given as goal

abbrev pub invariant-loop-name : goal.invariant-loop-name
invariant-loop-name l =
    (goal.iterator-loop-name).can_next l.name-iterator ×
    (goal.iterator-loop-name).is_finite l.name-iterator ×
    (l.entrants.items ++ over_members entrant_at (members_view l.name-iterator) ≡ over_members entrant_at (members_view l.pool.entries))
