use Rattle.history_automation.proofs.RateWalks.{filled_more}
use Rattle.history_automation.proofs.rates.with_moment.Goals as goal

pub returns-in-Some-Some : goal.returns-in-Some-Some
returns-in-Some-Some c = λ moments filled.
    filled_more c.args.rate.now moments c.in-Some-Some.t c.args.moment c.args.filled c.in-Some-Some.bucket c.taken.result c.in-Some-Some.is-1 c.in-Some-Some.is-0 c.taken.ensures filled
