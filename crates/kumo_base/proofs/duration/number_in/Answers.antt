use Rattle.std.proofs.Common.{◌+◌, ◌*◌, min, ap, ◌∙◌}
use Rattle.kumo_base.specs.declared.duration.TheConstants.{TOO_LONG}
use Rattle.kumo_base.proofs.DurationLemmas.{capped_digit}
use Rattle.kumo_base.proofs.duration.number_in.Goals as goal

pub loop-digit-preserved : goal.loop-digit-preserved
loop-digit-preserved c =
    let below = c.loop-digit-test.true in
    let step =
    capped_digit c.args.digits.now c.loop-digit.digit-index c.loop-digit.number TOO_LONG below
    (c.requires c.loop-digit.digit-index below) c.loop-digit.invariant in
    c.min-number.ensures ∙ ap (λ d. min (c.loop-digit.number * 10 + d) TOO_LONG) c.from.ensures ∙ step
