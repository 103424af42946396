use Rattle.throttle_spec.proofs.BucketLemmas.{room_decides}
use Rattle.throttle_spec.proofs.laws.room_decides_as_all_pairs.Goals as goal

pub returns : goal.returns
returns c = room_decides
