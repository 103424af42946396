use Rattle.std.proofs.Common.{◌≡◌, ◌++◌, drop, map}
use Rattle.std.specs.List.{flat_map}
use Rattle.shaping_policy.specs.inside.Seen.{seen_rule}
use Rattle.shaping_policy.specs.ShapingFile.{ignored_of_rule}
use Rattle.shaping_policy.proofs.ignored.add_rules.Given as goal

abbrev pub invariant-loop-rule : goal.invariant-loop-rule
invariant-loop-rule l =
    l.ignored.items ++ flat_map ignored_of_rule (map seen_rule (drop l.rule-index l.rules)) ≡ l.fn.ignored.items ++ flat_map ignored_of_rule (map seen_rule l.rules)
