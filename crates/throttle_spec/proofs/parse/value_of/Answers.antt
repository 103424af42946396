use Rattle.std.proofs.Common.{◌*◌, ◌+◌, min, sym, ap, ◌∙◌}
use Rattle.std.specs.Str.Parse.{digits_value}
use Rattle.throttle_spec.specs.declared.parse.TheConstants.{TOO_LARGE}
use Rattle.throttle_spec.proofs.TextLemmas.{digit_more, other_more}
use Rattle.throttle_spec.proofs.parse.value_of.Goals as goal
use Rattle.throttle_spec.proofs.parse.value_of.Goals.{then-is_ascii_digit, else-is_ascii_digit}

pub loop-byte-preserved : goal.loop-byte-preserved
loop-byte-preserved c =
    let text = c.args.text.now in
    let i = c.loop-byte.byte-index in
    elim c.if-is_ascii_digit.branch [
      | then-is_ascii_digit w ↦ w.number-is ∙ w.min-number.ensures ∙ ap (λ d. min (c.loop-byte.number * 10 + d) TOO_LARGE) w.from.ensures
          ∙ digit_more text i c.loop-byte.number TOO_LARGE c.loop-byte-test.true (sym c.is_ascii_digit.ensures.value ∙ w.if-is_ascii_digit.true) c.loop-byte.invariant
      | else-is_ascii_digit w ↦ w.number-is ∙ c.loop-byte.invariant
          ∙ ap (λ ds. min (digits_value 10 ds) TOO_LARGE) (sym (other_more text i c.loop-byte-test.true (sym c.is_ascii_digit.ensures.value ∙ w.if-is_ascii_digit.false)))
    ]
