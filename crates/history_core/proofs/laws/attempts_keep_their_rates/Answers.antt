use Rattle.history_core.proofs.RateLemmas.{attempts_conform}
use Rattle.history_core.proofs.laws.attempts_keep_their_rates.Goals as goal

pub returns : goal.returns
returns c = attempts_conform
