use Rattle.std.proofs.Common.{◌≡◌, ◌==◌, false, ap, sym, arith, ◌∙◌}
use Rattle.std.proofs.lemmas.Bool.Decides.{nat_tests}
use Rattle.smtp_reply.proofs.CodeLemmas.{same_digit, other_digit}
use Rattle.smtp_reply.proofs.said.Said.same_code.Goals as goal

pub returns-then-byte-at : goal.returns-then-byte-at
returns-then-byte-at c bytes long stands =
    same_digit c.args.digit c.behind.result c.args.self.now bytes c.args.byte c.behind.ensures (c.if-byte-at.true ∙ c.at.ensures) long stands

pub returns-else-byte-at : goal.returns-else-byte-at
returns-else-byte-at c bytes long stands =
    let other : (c.args.byte == c.at.result) ≡ false = grind (arith, nat_tests) in
    other_digit c.args.digit c.args.self.now bytes c.args.byte (ap (λ n. c.args.byte == n) (sym c.at.ensures) ∙ other) long stands
