use Rattle.throttle_spec.proofs.BucketLemmas.{least_says}
use Rattle.throttle_spec.proofs.laws.least_admitted_is_least.Goals as goal

pub returns : goal.returns
returns c = least_says
