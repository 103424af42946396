use Rattle.smtp_reply.proofs.FrontLemmas.{fronts_go_on}
use Rattle.smtp_reply.proofs.laws.fronts_go_on.Goals as goal

pub returns : goal.returns
returns c = fronts_go_on
