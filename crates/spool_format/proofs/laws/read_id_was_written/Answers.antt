use Rattle.std.proofs.Common.{arith}
use Rattle.spool_format.proofs.ReadLemmas.{settled_written}
use Rattle.spool_format.proofs.laws.read_id_was_written.Goals as goal

pub returns : goal.returns
returns c = λ id e. settled_written c.args.payload.now id (λ i. omega (arith, c.type_inv.payload i)) e
