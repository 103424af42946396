use Rattle.spool_format.proofs.HeldLemmas.{held_again}
use Rattle.spool_format.proofs.laws.payload_of_message_is_read.Goals as goal

pub returns : goal.returns
returns c = λ m proper texts. held_again m proper texts
