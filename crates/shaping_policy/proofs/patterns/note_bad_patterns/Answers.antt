use Rattle.std.proofs.Common.{◌∙◌, arith}
use Rattle.shaping_policy.specs.inside.Seen.{seen_rule}
use Rattle.shaping_policy.specs.Faults.{faults_of_patterns}
use Rattle.shaping_policy.proofs.PatternLemmas.{rule_step}
use Rattle.shaping_policy.proofs.patterns.note_bad_patterns.Goals as goal

pub loop-rule-preserved : goal.loop-rule-preserved
loop-rule-preserved g c = record {
  same = rule_step seen_rule faults_of_patterns _ _ _ c.loop-rule-test.true c.rule-item.is _ _ c.in_ok-note_rule.ensures.ok ∙ c.loop-rule.invariant.same;
  later = omega (arith, c.note_rule.ensures.cause.later, c.loop-rule.invariant.later);
}
