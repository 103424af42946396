use Rattle.shaping_policy.proofs.OptionLemmas.{sets_its_own}
use Rattle.shaping_policy.proofs.laws.a_value_sets_its_own_option.Goals as goal

pub returns : goal.returns
returns c = sets_its_own
