use Rattle.history_core.proofs.Settling.{is_ready-pending, ready-pending}
use Rattle.history_core.proofs.laws.ready_message_has_no_fate.Goals as goal

pub returns : goal.returns
returns c = record { anywhere = is_ready-pending; on_its_path = ready-pending }
