use Rattle.history_core.proofs.Settling.{fate_of-once}
use Rattle.history_core.proofs.laws.message_has_one_fate_at_most.Goals as goal

pub returns : goal.returns
returns c = fate_of-once
