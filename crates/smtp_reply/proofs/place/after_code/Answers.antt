use Rattle.std.proofs.Common.{true, false, refl, arith}
use Rattle.std.proofs.lemmas.Bool.Decides.{nat_tests}
use Rattle.smtp_reply.specs.declared.place.Place.TheVariants.{AfterReturn}
use Rattle.smtp_reply.proofs.StepLemmas.{code_feed, code_byte, code_mark, code_bad}
use Rattle.smtp_reply.proofs.place.after_code.Goals as goal

pub returns-in-10 : goal.returns-in-10
returns-in-10 c said bytes stands = code_feed said bytes c.args.byte c.in-10.is stands

pub returns-in-13 : goal.returns-in-13
returns-in-13 c said bytes stands = code_byte said AfterReturn bytes c.args.byte 13 c.in-13.is refl refl (λ x y z. refl) stands

pub returns-in-32 : goal.returns-in-32
returns-in-32 c said bytes stands = code_mark said c.text_behind.result false bytes c.args.byte c.in-32.is c.text_behind.ensures stands

pub returns-in-45 : goal.returns-in-45
returns-in-45 c said bytes stands = code_mark said c.text_behind-in-45.result true bytes c.args.byte c.in-45.is c.text_behind-in-45.ensures stands

pub returns-in_default : goal.returns-in_default
returns-in_default c said bytes stands = code_bad said bytes c.args.byte (grind (arith, nat_tests)) (grind (arith, nat_tests)) stands
