use Rattle.policy_core.proofs.LayerLemmas.{settings_in-push}
use Rattle.policy_core.proofs.laws.last_layer_lies_over_others.Goals as goal

pub returns : goal.returns
returns c = settings_in-push
