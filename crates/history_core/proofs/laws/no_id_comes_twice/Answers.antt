use Rattle.history_core.proofs.Numbers.{messages-once}
use Rattle.history_core.proofs.laws.no_id_comes_twice.Goals as goal

pub returns : goal.returns
returns c = messages-once
