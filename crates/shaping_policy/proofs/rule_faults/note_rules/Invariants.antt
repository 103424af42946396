use Rattle.std.proofs.Common.{◌≡◌, map, drop}
use Rattle.std.specs.List.{flat_map}
use Rattle.policy_toml.specs.Places.{first_of}
use Rattle.shaping_policy.specs.inside.Seen.{seen_rule}
use Rattle.shaping_policy.specs.Faults.{faults_of_rule}
use Rattle.shaping_policy.proofs.rule_faults.note_rules.Given as goal

abbrev pub invariant-loop-rule : goal.invariant-loop-rule
invariant-loop-rule l =
    first_of l.faults (flat_map faults_of_rule (map seen_rule (drop l.rule-index l.rules))) ≡ first_of l.fn.faults (flat_map faults_of_rule (map seen_rule l.rules))
