use Rattle.path_lease.proofs.AllowedLemmas.{opening_allowed}
use Rattle.path_lease.proofs.laws.calls_allow_an_opening.Goals as goal

pub returns : goal.returns
returns c = opening_allowed
