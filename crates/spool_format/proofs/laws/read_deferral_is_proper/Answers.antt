use Rattle.spool_format.proofs.ReadLemmas.{deferred_long, deferred_proper}
use Rattle.spool_format.proofs.laws.read_deferral_is_proper.Goals as goal

pub returns-clause-proper : goal.returns-clause-proper
returns-clause-proper c = λ p d e. deferred_proper p d e

pub returns-clause-long : goal.returns-clause-long
returns-clause-long c = λ p d e. deferred_long p d e
