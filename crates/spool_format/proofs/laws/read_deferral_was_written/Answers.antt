use Rattle.std.proofs.Common.{arith}
use Rattle.spool_format.proofs.ReadLemmas.{deferred_written}
use Rattle.spool_format.proofs.laws.read_deferral_was_written.Goals as goal

pub returns : goal.returns
returns c = λ d e. deferred_written c.args.payload.now d (λ i. omega (arith, c.type_inv.payload i)) e
