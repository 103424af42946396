use Rattle.history_core.proofs.Settling.{busy_with-pending}
use Rattle.history_core.proofs.laws.attempted_message_has_no_fate.Goals as goal

pub returns : goal.returns
returns c = busy_with-pending
