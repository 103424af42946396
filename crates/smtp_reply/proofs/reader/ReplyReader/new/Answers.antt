use Rattle.std.proofs.Common.{refl}
use Rattle.smtp_reply.proofs.ReadLemmas.{reads_nothing}
use Rattle.smtp_reply.proofs.reader.ReplyReader.new.Goals as goal

pub returns : goal.returns
returns c = reads_nothing _ refl refl refl c.new.ensures
