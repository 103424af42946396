use Rattle.std.proofs.Common.{subst}
use Rattle.std.specs.Prelude.{nat_eq}
use Rattle.indexmap.specs.IndexMap.{get}
use Rattle.path_lease.specs.Standing.{IsCounted}
use Rattle.path_lease.proofs.RateLemmas.{next_by}
use Rattle.path_lease.proofs.rates.next.Goals as goal

pub returns-in-Some : goal.returns-in-Some
returns-in-Some c = λ moments counted.
    let at = subst (λ r. IsCounted r moments (get nat_eq c.args.buckets.now c.args.key)) c.in-Some.is counted in
    next_by c.args.rate c.in-Some.rate moments c.args.t c.bucket_of.result c.next.result c.in-Some.is c.next.ensures.exact
    (c.bucket_of.ensures.counted moments at)
