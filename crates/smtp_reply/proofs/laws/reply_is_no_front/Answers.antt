use Rattle.smtp_reply.proofs.FrontLemmas.{reply_is_no_front}
use Rattle.smtp_reply.proofs.laws.reply_is_no_front.Goals as goal

pub returns : goal.returns
returns c = reply_is_no_front
