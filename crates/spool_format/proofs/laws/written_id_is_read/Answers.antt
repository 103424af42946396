use Rattle.spool_format.proofs.SmallLemmas.{settled_again}
use Rattle.spool_format.proofs.laws.written_id_is_read.Goals as goal

pub returns : goal.returns
returns c = λ id below. settled_again id below
