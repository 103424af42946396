use Rattle.std.proofs.Common.{◌≡◌, ◌++◌, drop}
use Rattle.toml.specs.View.{items_view}
use Rattle.shaping_policy.specs.RuleValues.{over_items}
use Rattle.shaping_policy.specs.ShapingFile.{text_of}
use Rattle.shaping_policy.proofs.rules.patterns_of.Given as goal

abbrev pub invariant-loop-value : goal.invariant-loop-value
invariant-loop-value l =
    l.patterns.items ++ over_items text_of (items_view (drop l.value-index l.value-items)) ≡ over_items text_of (items_view l.value-items)
