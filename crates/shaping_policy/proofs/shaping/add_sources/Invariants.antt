use Rattle.std.proofs.Common.{◌≡◌, ◌++◌}
use Rattle.toml.specs.View.{members_view}
use Rattle.policy_toml.specs.Walks.{over_members}
use Rattle.shaping_policy.specs.ShapingFile.{source_given}
use Rattle.shaping_policy.proofs.shaping.add_sources.Given as goal

abbrev pub invariant-loop-name : goal.invariant-loop-name
invariant-loop-name l =
    (goal.iterator-loop-name).can_next l.name-iterator ×
    (goal.iterator-loop-name).is_finite l.name-iterator ×
    (l.sources.items ++ over_members source_given (members_view l.name-iterator) ≡ l.fn.sources.items ++ over_members source_given (members_view l.tables.entries))
