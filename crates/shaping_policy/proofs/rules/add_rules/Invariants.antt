use Rattle.std.proofs.Common.{◌≡◌, ◌++◌, drop, map}
use Rattle.toml.specs.View.{items_view, table_view}
use Rattle.shaping_policy.specs.RuleValues.{over_items}
use Rattle.shaping_policy.specs.ShapingFile.{actions_given, rule_of}
use Rattle.shaping_policy.proofs.rules.add_rules.Given as goal

abbrev pub invariant-loop-value : goal.invariant-loop-value
invariant-loop-value l =
    l.rules.items ++ map (rule_of (table_view l.table)) (over_items actions_given (items_view (drop l.value-index l.value-items)))
    ≡ l.fn.rules.items ++ map (rule_of (table_view l.table)) (over_items actions_given (items_view l.value-items))
