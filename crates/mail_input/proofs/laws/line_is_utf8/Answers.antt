use Rattle.std.proofs.Common.{arith}
use Rattle.mail_input.proofs.RoundTrips.{line_utf8}
use Rattle.mail_input.proofs.laws.line_is_utf8.Goals as goal

pub returns : goal.returns
returns c = line_utf8 c.args.message.now (omega arith) c.is_in_utf8.ensures
