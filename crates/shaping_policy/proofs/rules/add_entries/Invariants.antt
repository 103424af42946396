use Rattle.std.proofs.Common.{◌≡◌, ◌++◌, drop}
use Rattle.toml.specs.View.{items_view}
use Rattle.shaping_policy.specs.RuleValues.{over_items}
use Rattle.shaping_policy.specs.ShapingFile.{rules_of_entry}
use Rattle.shaping_policy.proofs.rules.add_entries.Given as goal

abbrev pub invariant-loop-value : goal.invariant-loop-value
invariant-loop-value l =
    l.rules.items ++ over_items rules_of_entry (items_view (drop l.value-index l.list)) ≡ l.fn.rules.items ++ over_items rules_of_entry (items_view l.list)
