use Rattle.policy_core.proofs.RotationLemmas.{turns_are_weight}
use Rattle.policy_core.proofs.laws.turns_are_as_many_as_weight.Goals as goal

pub returns : goal.returns
returns c = turns_are_weight
