use Rattle.std.proofs.Common.{◌≡◌, ◌≤◌, drop, map}
use Rattle.std.specs.List.{flat_map}
use Rattle.policy_toml.specs.Places.{first_of}
use Rattle.shaping_policy.specs.inside.Seen.{seen_rule}
use Rattle.shaping_policy.specs.Faults.{faults_of_patterns}
use Rattle.shaping_policy.proofs.patterns.note_bad_patterns.Given as goal

abbrev pub invariant-loop-rule : goal.invariant-loop-rule
invariant-loop-rule g l = record {
  same : first_of l.faults (flat_map faults_of_patterns (map seen_rule (drop l.rule-index l.rules)))
      ≡ first_of l.fn.faults (flat_map faults_of_patterns (map seen_rule l.rules));
  later : (g.S.Search.seen l.fn.search).faults ≤ (g.S.Search.seen l.search).faults;
}
