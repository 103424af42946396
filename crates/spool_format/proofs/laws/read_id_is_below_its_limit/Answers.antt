use Rattle.spool_format.proofs.ReadLemmas.{settled_below, settled_long}
use Rattle.spool_format.proofs.laws.read_id_is_below_its_limit.Goals as goal

pub returns-clause-below : goal.returns-clause-below
returns-clause-below c = λ p id e. settled_below p id e

pub returns-clause-long : goal.returns-clause-long
returns-clause-long c = λ p id e. settled_long p id e
