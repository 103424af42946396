use Rattle.policy_toml.proofs.FirstLemmas.{none_before}
use Rattle.policy_toml.proofs.laws.none_comes_before_the_first.Goals as goal

pub returns : goal.returns
returns c = none_before
