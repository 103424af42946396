use Rattle.history_core.proofs.Numbers.{connections-numbered}
use Rattle.history_core.proofs.laws.connections_are_numbered_from_one.Goals as goal

pub returns : goal.returns
returns c = connections-numbered
