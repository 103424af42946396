use Rattle.std.proofs.Common.{sym, ◌∙◌, arith}
use Rattle.std.specs.Char.{to_ascii_lowercase}
use Rattle.queue_name.proofs.EqualLemmas.{differ, same}
use Rattle.queue_name.proofs.address.is_lower_case_of.Goals as goal

pub returns-then-lower-i : goal.returns-then-lower-i
returns-then-lower-i c =
    sym (differ to_ascii_lowercase c.args.lower.now c.args.bytes.now c.loop-i.i
    (omega (arith, c.loop-i-test.true, c.if-lower-bytes.false))
    (λ e. c.if-lower-i.true (e ∙ sym c.to_ascii_lowercase.ensures.value)))

pub returns : goal.returns
returns c =
    sym (same to_ascii_lowercase c.args.lower.now c.args.bytes.now c.loop-i.i c.loop-i-test.false c.if-lower-bytes.false c.loop-i.invariant.same)
