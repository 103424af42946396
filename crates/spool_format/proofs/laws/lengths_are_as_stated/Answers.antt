use Rattle.spool_format.proofs.SmallLemmas.{settled_length, deferred_length}
use Rattle.spool_format.proofs.laws.lengths_are_as_stated.Goals as goal

pub returns-clause-settled : goal.returns-clause-settled
returns-clause-settled c = λ id. settled_length id

pub returns-clause-deferred : goal.returns-clause-deferred
returns-clause-deferred c = λ d. deferred_length d
