use Rattle.mail_input.proofs.RoundTrips.{line_read}
use Rattle.mail_input.proofs.laws.written_line_is_read.Goals as goal

pub returns : goal.returns
returns c = λ proper. line_read c.args.message.now proper c.is_in_utf8.ensures
