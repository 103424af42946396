use Rattle.std.proofs.Common.{refl, arith}
use Rattle.std.proofs.lemmas.Bool.Decides.{nat_tests}
use Rattle.smtp_reply.proofs.StepLemmas.{text_byte, text_ends, text_goes_on}
use Rattle.smtp_reply.proofs.said.Said.read_text.Goals as goal

pub returns-then-byte-ne10 : goal.returns-then-byte-ne10
returns-then-byte-ne10 c bytes stands =
    text_byte c.args.self.now (record { code = c.args.self.now.code; text = c.read_text.new.self }) c.args.line c.read_text.result bytes c.args.byte (grind (arith, nat_tests))
    refl c.read_text.ensures.text c.read_text.ensures.goes_on c.read_text.ensures.began c.read_text.ensures.waits stands

pub returns-then-line : goal.returns-then-line
returns-then-line c bytes stands = text_goes_on c.args.self.now c.args.line bytes c.args.byte c.if-byte-ne10.false c.if-line.true stands

pub returns-else-line : goal.returns-else-line
returns-else-line c bytes stands = text_ends c.args.self.now c.args.line bytes c.args.byte c.if-byte-ne10.false c.if-line.false stands
