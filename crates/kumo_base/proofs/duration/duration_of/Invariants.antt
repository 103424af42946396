use Rattle.std.proofs.Common.{◌≤◌, length}
use Rattle.kumo_base.specs.declared.duration.TheConstants.{LONGEST_DURATION}
use Rattle.kumo_base.proofs.DurationLemmas.{ReadsOn}
use Rattle.kumo_base.proofs.duration.duration_of.Given as goal

-- the text reads on as the rest does behind the sum so far
abbrev pub invariant-loop-rest : goal.invariant-loop-rest
invariant-loop-rest l = record {
  limit : l.sum ≤ LONGEST_DURATION;
  within : length l.rest ≤ length l.fn.text;
  same : ReadsOn l.fn.text (length l.fn.text) l.sum l.rest;
}

abbrev pub decreases-loop-rest : goal.decreases-loop-rest
decreases-loop-rest l = length l.rest
