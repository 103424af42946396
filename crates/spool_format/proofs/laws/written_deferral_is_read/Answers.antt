use Rattle.spool_format.proofs.SmallLemmas.{deferred_again}
use Rattle.spool_format.proofs.laws.written_deferral_is_read.Goals as goal

pub returns : goal.returns
returns c = λ d proper. deferred_again d proper
