use Rattle.history_core.proofs.AllowedLemmas.{attempt_allowed}
use Rattle.history_core.proofs.laws.an_attempt_was_allowed.Goals as goal

pub returns : goal.returns
returns c = attempt_allowed
