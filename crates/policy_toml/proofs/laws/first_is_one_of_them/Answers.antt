use Rattle.policy_toml.proofs.FirstLemmas.{first_is_one}
use Rattle.policy_toml.proofs.laws.first_is_one_of_them.Goals as goal

pub returns : goal.returns
returns c = first_is_one
