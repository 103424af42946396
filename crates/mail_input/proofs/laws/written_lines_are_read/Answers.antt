use Rattle.mail_input.proofs.RoundTrips.{mail_read}
use Rattle.mail_input.proofs.laws.written_lines_are_read.Goals as goal

pub returns : goal.returns
returns c = λ ms proper texts distinct room. mail_read ms proper texts room distinct
