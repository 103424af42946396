use Rattle.std.proofs.Common.{sym, ◌∙◌}
use Rattle.smtp_reply.proofs.CodeLemmas.{first_digit, no_digit}
use Rattle.smtp_reply.proofs.said.Said.first_code.Goals as goal

pub returns-then-not-may_be : goal.returns-then-not-may_be
returns-then-not-may_be c bytes short stands =
    no_digit c.args.digit c.args.self.now bytes c.args.byte (sym c.may_be.ensures ∙ c.if-not-may_be.true) short stands

pub returns : goal.returns
returns c bytes short stands =
    first_digit c.args.digit c.behind.result c.args.self.now (record { code = c.set.new.self; text = c.put.new.self }) bytes c.args.byte c.behind.ensures (sym c.may_be.ensures ∙ c.if-not-may_be.false) c.set.ensures c.put.ensures short stands
