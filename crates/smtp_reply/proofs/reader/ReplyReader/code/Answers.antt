use Rattle.std.proofs.Common.{◌∙◌}
use Rattle.smtp_reply.proofs.WholeLemmas.{whole_code}
use Rattle.smtp_reply.proofs.reader.ReplyReader.code.Goals as goal

pub returns : goal.returns
returns c bytes reads = c.number.ensures ∙ whole_code c.args.self.now bytes c.requires.whole reads
