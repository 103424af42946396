use Rattle.std.proofs.Common.{refl}
use Rattle.smtp_dialogue.proofs.Listening.{gets_none}
use Rattle.smtp_dialogue.proofs.listen.receive.Goals as goal

pub returns-in-Err-clause-gets : goal.returns-in-Err-clause-gets
returns-in-Err-clause-gets g c = gets_none _ _ c.in-Err.ensures.got c.in-Err.ensures.sent refl c.in-Err.ensures.cause.later
