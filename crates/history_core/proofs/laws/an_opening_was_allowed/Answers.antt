use Rattle.history_core.proofs.AllowedLemmas.{opening_allowed}
use Rattle.history_core.proofs.laws.an_opening_was_allowed.Goals as goal

pub returns : goal.returns
returns c = opening_allowed
