use Rattle.std.proofs.Common.{◌≡◌, ◌++◌, drop}
use Rattle.toml.specs.View.{items_view}
use Rattle.shaping_policy.specs.RuleValues.{over_items}
use Rattle.shaping_policy.specs.ShapingFile.{matches_given}
use Rattle.shaping_policy.proofs.shaping.matches_of.Given as goal

abbrev pub invariant-loop-value : goal.invariant-loop-value
invariant-loop-value l =
    l.matches.items ++ over_items matches_given (items_view (drop l.value-index l.value-items)) ≡ over_items matches_given (items_view l.value-items)
