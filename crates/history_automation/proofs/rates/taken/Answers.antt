use Rattle.history_automation.proofs.RateWalks.{refused_by}
use Rattle.history_automation.proofs.rates.taken.Goals as goal

pub returns-then-not-admits : goal.returns-then-not-admits
returns-then-not-admits c = λ s moments filled. refused_by s moments c.args.t c.args.bucket c.admits.result c.if-not-admits.true c.admits.ensures.exact filled
