use Rattle.smtp_reply.proofs.HeardLemmas.{heard_stays}
use Rattle.smtp_reply.proofs.laws.heard_stays.Goals as goal

pub returns : goal.returns
returns c = heard_stays
