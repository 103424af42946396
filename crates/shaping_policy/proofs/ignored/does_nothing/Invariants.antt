use Rattle.std.proofs.Common.{◌≡◌, drop}
use Rattle.std.specs.List.{list_any}
use Rattle.toml.specs.View.{items_view}
use Rattle.shaping_policy.specs.RuleValues.{over_items}
use Rattle.shaping_policy.specs.ShapingFile.{actions_given, has_no_effect}
use Rattle.shaping_policy.proofs.ignored.does_nothing.Given as goal

abbrev pub invariant-loop-value : goal.invariant-loop-value
invariant-loop-value l =
    list_any has_no_effect (over_items actions_given (items_view (drop l.value-index l.actions))) ≡ list_any has_no_effect (over_items actions_given (items_view l.actions))
