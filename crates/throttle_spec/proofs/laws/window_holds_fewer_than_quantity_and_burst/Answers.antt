use Rattle.throttle_spec.proofs.WindowLemmas.{half_open_bound}
use Rattle.throttle_spec.proofs.laws.window_holds_fewer_than_quantity_and_burst.Goals as goal

pub returns : goal.returns
returns c = half_open_bound
