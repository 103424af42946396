use Rattle.std.proofs.Common.{◌≡◌, ◌/◌, ◌%◌, ◌+◌, min, ap, ◌∙◌, arith}
use Rattle.std.proofs.lemmas.Grind.{div_ceil_times}
use Rattle.throttle_spec.proofs.BucketLemmas.{before_rounded}
use Rattle.throttle_spec.proofs.bucket.first_with_room.Goals as goal

pub returns-clause-before : goal.returns-clause-before
returns-clause-before c =
    let quantity = c.args.spec.now.quantity in
    let short = c.saturating_sub-short.result in
    let first : c.div_ceil-first.result ≡ short / quantity + min 1 (short % quantity) =
    c.div_ceil-first.ensures ∙ ap (λ q. short / q + min 1 (short % q)) (c.from-2.ensures ∙ c.quantity.ensures.value) in
    let rounds = div_ceil_times short quantity c.quantity.ensures.throttle.some_quantity in
    λ v below.
    let less = before_rounded v (short / quantity + min 1 (short % quantity)) short quantity (omega (arith, below, c.min.ensures, first)) rounds.1 in
    omega (arith, less, c.saturating_sub-short.ensures, c.from.ensures, c.period.ensures.value, c.allowance.ensures.value)
