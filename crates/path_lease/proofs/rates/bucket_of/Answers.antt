use Rattle.std.proofs.Common.{sym}
use Rattle.path_lease.proofs.RateLemmas.{new_admits}
use Rattle.path_lease.proofs.rates.bucket_of.Goals as goal

pub returns-in-None-clause-word : goal.returns-in-None-clause-word
returns-in-None-clause-word c = λ t. new_admits c.args.rate c.new.result _ t (sym c.in-None.ensures.value) c.new.ensures.throttle c.new.ensures.stands
