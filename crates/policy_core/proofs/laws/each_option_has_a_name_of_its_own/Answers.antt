use Rattle.policy_core.proofs.OptionLemmas.{own_name}
use Rattle.policy_core.proofs.laws.each_option_has_a_name_of_its_own.Goals as goal

pub returns : goal.returns
returns c = own_name
