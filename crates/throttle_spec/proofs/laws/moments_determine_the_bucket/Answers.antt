use Rattle.throttle_spec.proofs.BucketLemmas.{one_state}
use Rattle.throttle_spec.proofs.laws.moments_determine_the_bucket.Goals as goal

pub returns : goal.returns
returns c = one_state
