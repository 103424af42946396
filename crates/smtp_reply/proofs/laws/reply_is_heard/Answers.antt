use Rattle.smtp_reply.proofs.FoundLemmas.{reply_is_heard}
use Rattle.smtp_reply.proofs.laws.reply_is_heard.Goals as goal

pub returns : goal.returns
returns c = reply_is_heard
