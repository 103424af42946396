use Rattle.std.proofs.Common.{◌≡◌}
use Rattle.toml.specs.View.{members_view}
use Rattle.sources_policy.specs.SourcesFile.{entrants_of, has_more_than}
use Rattle.sources_policy.specs.declared.values.TheConstants.{ENTRANT_LIMIT}
use Rattle.sources_policy.proofs.values.has_many_entrants.Given as goal

abbrev pub invariant-loop-value : goal.invariant-loop-value
invariant-loop-value l =
    (goal.iterator-loop-value).can_next l.value-iterator ×
    (goal.iterator-loop-value).is_finite l.value-iterator ×
    (has_more_than l.room (entrants_of (members_view l.value-iterator)) ≡ has_more_than ENTRANT_LIMIT (entrants_of (members_view l.pool.entries)))
