use Rattle.policy_core.proofs.OptionLemmas.{found_by_name}
use Rattle.policy_core.proofs.laws.each_option_is_found_by_its_name.Goals as goal

pub returns : goal.returns
returns c = found_by_name
