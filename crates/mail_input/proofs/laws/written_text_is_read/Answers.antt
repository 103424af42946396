use Rattle.mail_input.proofs.RoundTrips.{mail_read_one}
use Rattle.mail_input.proofs.laws.written_text_is_read.Goals as goal

pub returns : goal.returns
returns c = λ proper. mail_read_one c.args.message.now proper c.is_in_utf8.ensures
