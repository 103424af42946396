use Rattle.smtp_reply.proofs.HeardLemmas.{more_is_front, more_is_short, more_uses_all}
use Rattle.smtp_reply.proofs.laws.more_is_a_front.Goals as goal

pub returns-clause-front : goal.returns-clause-front
returns-clause-front c = more_is_front

pub returns-clause-short : goal.returns-clause-short
returns-clause-short c = more_is_short

pub returns-clause-used : goal.returns-clause-used
returns-clause-used c = more_uses_all
