use Rattle.std.proofs.Common.{refl}
use Rattle.smtp_reply.proofs.ReadLemmas.{reads_nothing}
use Rattle.smtp_reply.proofs.reader.ReplyReader.restart.Goals as goal

pub returns : goal.returns
returns c = reads_nothing _ refl refl refl c.clear.ensures
