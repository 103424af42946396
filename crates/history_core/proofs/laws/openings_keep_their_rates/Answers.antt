use Rattle.history_core.proofs.RateLemmas.{openings_conform}
use Rattle.history_core.proofs.laws.openings_keep_their_rates.Goals as goal

pub returns : goal.returns
returns c = openings_conform
