use Rattle.std.proofs.Common.{arith}
use Rattle.spool_format.proofs.ReadLemmas.{held_written}
use Rattle.spool_format.proofs.laws.read_message_was_written.Goals as goal

pub returns : goal.returns
returns c = λ m e. held_written c.args.payload.now m (λ i. omega (arith, c.type_inv.payload i)) e
