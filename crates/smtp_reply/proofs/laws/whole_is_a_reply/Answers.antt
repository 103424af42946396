use Rattle.smtp_reply.proofs.WholeLemmas.{whole_within, whole_proper}
use Rattle.smtp_reply.proofs.laws.whole_is_a_reply.Goals as goal

pub returns-clause-within : goal.returns-clause-within
returns-clause-within c = whole_within

pub returns-clause-proper : goal.returns-clause-proper
returns-clause-proper c = whole_proper
