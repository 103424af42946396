use Rattle.kumo_base.specs.Moment.{clamped}
use Rattle.history_automation.proofs.RateWalks.{admitted_by, none_by}
use Rattle.history_automation.proofs.rates.admits.Goals as goal

pub returns-in-Some : goal.returns-in-Some
returns-in-Some c = λ moments filled.
    admitted_by c.args.rate.now moments c.args.t c.args.filled.now c.in-Some.bucket c.admits.result c.in-Some.is c.admits.ensures.exact filled

pub returns-in-None : goal.returns-in-None
returns-in-None c = λ moments filled. none_by c.args.rate.now moments (clamped c.args.t) c.args.filled.now c.in-None.is filled
