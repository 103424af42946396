use Rattle.throttle_spec.proofs.WindowLemmas.{closed_bound}
use Rattle.throttle_spec.proofs.laws.closed_window_holds_at_most_quantity_and_burst.Goals as goal

pub returns : goal.returns
returns c = closed_bound
