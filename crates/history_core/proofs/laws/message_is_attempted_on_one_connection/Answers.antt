use Rattle.history_core.proofs.Settling.{busy_with-alone}
use Rattle.history_core.proofs.laws.message_is_attempted_on_one_connection.Goals as goal

pub returns : goal.returns
returns c = busy_with-alone
