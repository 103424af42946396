use Rattle.spool_format.proofs.ReadLemmas.{held_long, held_proper, held_texts}
use Rattle.spool_format.proofs.laws.read_message_is_proper.Goals as goal

pub returns-clause-rules : goal.returns-clause-rules
returns-clause-rules c = λ p m e. held_proper p m e

pub returns-clause-texts : goal.returns-clause-texts
returns-clause-texts c = λ p m e. held_texts p m e

pub returns-clause-long : goal.returns-clause-long
returns-clause-long c = λ p m e. held_long p m e
