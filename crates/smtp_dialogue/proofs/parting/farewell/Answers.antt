use Rattle.smtp_dialogue.proofs.Trying.{parted}
use Rattle.smtp_dialogue.proofs.parting.farewell.Goals as goal

pub returns-clause-spoken : goal.returns-clause-spoken
returns-clause-spoken g c = parted _ _ _ _ c.ask_code-answer.ensures.asks.1
