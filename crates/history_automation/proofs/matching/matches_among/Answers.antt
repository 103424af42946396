use Rattle.std.proofs.Common.{◌+◌, arith}
use Rattle.history_automation.specs.inside.Refused.{refusal_of}
use Rattle.history_automation.proofs.MatchWalks.{match_step, match_end}
use Rattle.history_automation.proofs.matching.matches_among.Goals as goal

pub loop-index-preserved : goal.loop-index-preserved
loop-index-preserved g c = record {
  same =
      match_step (refusal_of c.args.refusal.now) c.args.rules.now c.loop-index.index c.index-rules-index.result c.loop-index.found.items c.add_match.new.found.items _
      c.loop-index-test.true c.index-rules-index.is c.in_ok-add_match.ensures.items c.loop-index.invariant.same;
  later = omega (arith, c.add_match.ensures.cause.later, c.loop-index.invariant.later);
}

pub returns-clause-items : goal.returns-clause-items
returns-clause-items g c =
    match_end (refusal_of c.args.refusal.now) c.args.rules.now c.loop-index.index (c.loop-index.index + 1) c.loop-index.found.items _ c.loop-index-test.false c.loop-index.invariant.same
