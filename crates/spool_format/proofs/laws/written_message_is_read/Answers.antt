use Rattle.spool_format.proofs.HeldLemmas.{held_again}
use Rattle.spool_format.proofs.laws.written_message_is_read.Goals as goal

pub returns : goal.returns
returns c = λ proper. held_again c.args.message.now proper c.is_in_utf8.ensures
