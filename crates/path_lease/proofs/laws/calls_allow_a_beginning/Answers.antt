use Rattle.path_lease.proofs.AllowedLemmas.{beginning_allowed}
use Rattle.path_lease.proofs.laws.calls_allow_a_beginning.Goals as goal

pub returns : goal.returns
returns c = beginning_allowed
