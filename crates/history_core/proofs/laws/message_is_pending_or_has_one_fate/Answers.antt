use Rattle.history_core.proofs.Settling.{pending_or_once, pending-none}
use Rattle.history_core.proofs.laws.message_is_pending_or_has_one_fate.Goals as goal

pub returns : goal.returns
returns c = record { one_of_both = pending_or_once; not_both = pending-none }
