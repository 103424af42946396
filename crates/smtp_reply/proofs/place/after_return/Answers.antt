use Rattle.std.proofs.Common.{arith}
use Rattle.std.proofs.lemmas.Bool.Decides.{nat_tests}
use Rattle.smtp_reply.proofs.StepLemmas.{return_feed, return_bad}
use Rattle.smtp_reply.proofs.place.after_return.Goals as goal

pub returns-then-byte-eq10 : goal.returns-then-byte-eq10
returns-then-byte-eq10 c said bytes stands = return_feed said bytes c.args.byte c.if-byte-eq10.true stands

pub returns-else-byte-eq10 : goal.returns-else-byte-eq10
returns-else-byte-eq10 c said bytes stands = return_bad said bytes c.args.byte (grind (arith, nat_tests)) stands
