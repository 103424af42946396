use Rattle.std.proofs.Common.{◌≡◌, map, take}
use Rattle.automation_rules.specs.Memory.{blank_rule}
use Rattle.automation_rules.proofs.known_path.blank_rules.Given as goal

abbrev pub invariant-loop-rule : goal.invariant-loop-rule
invariant-loop-rule l = l.states.items ≡ map blank_rule (take l.rule-index l.rules)
