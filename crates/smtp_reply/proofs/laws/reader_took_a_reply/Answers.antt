use Rattle.smtp_reply.proofs.WholeLemmas.{reader_proper}
use Rattle.smtp_reply.proofs.laws.reader_took_a_reply.Goals as goal

pub returns : goal.returns
returns c = reader_proper
