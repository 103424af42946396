use Rattle.history_automation.proofs.RateWalks.{latest_by}
use Rattle.history_automation.proofs.rates.next.Goals as goal

pub returns-in-None : goal.returns-in-None
returns-in-None c = λ moments filled. latest_by c.args.rate.now moments c.args.t c.args.filled.now c.in-None.is filled
