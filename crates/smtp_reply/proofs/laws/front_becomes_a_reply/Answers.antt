use Rattle.smtp_reply.proofs.FoundLemmas.{front_becomes_a_reply}
use Rattle.smtp_reply.proofs.laws.front_becomes_a_reply.Goals as goal

pub returns : goal.returns
returns c = front_becomes_a_reply
