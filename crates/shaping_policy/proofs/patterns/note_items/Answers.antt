use Rattle.std.proofs.Common.{◌∙◌, arith}
use Rattle.shaping_policy.specs.RuleValues.{pattern_at}
use Rattle.shaping_policy.proofs.PatternLemmas.{item_step}
use Rattle.shaping_policy.proofs.patterns.note_items.Goals as goal

pub loop-index-preserved : goal.loop-index-preserved
loop-index-preserved g c = record {
  same =
      item_step pattern_at _ _ _ _ _ _ c.loop-index-test.true c.index-items-index.is _ _ c.in_ok-note_pattern.ensures.ok
      ∙ c.loop-index.invariant.same;
  later = omega (arith, c.note_pattern.ensures.cause.later, c.loop-index.invariant.later);
}
