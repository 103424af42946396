use Rattle.policy_core.proofs.LayerLemmas.{options_in-push}
use Rattle.policy_core.proofs.laws.last_options_lie_over_others.Goals as goal

pub returns : goal.returns
returns c = options_in-push
