use Rattle.std.proofs.Common.{subst, sym}
use Rattle.std.specs.Prelude.{nat_eq}
use Rattle.indexmap.specs.IndexMap.{get}
use Rattle.path_lease.specs.Standing.{IsCounted}
use Rattle.path_lease.specs.Allowed.{Admits}
use Rattle.path_lease.proofs.RateLemmas.{admitted_by}
use Rattle.path_lease.proofs.rates.admits.Goals as goal

pub returns-in-Some-clause-exact : goal.returns-in-Some-clause-exact
returns-in-Some-clause-exact c = λ moments counted.
    let at = subst (λ r. IsCounted r moments (get nat_eq c.args.buckets.now c.args.key)) c.in-Some.is counted in
    admitted_by c.args.rate c.in-Some.rate moments c.args.t c.bucket_of.result c.admits.result c.in-Some.is c.admits.ensures.exact
    (c.bucket_of.ensures.counted moments at)

pub returns-in-Some-clause-word : goal.returns-in-Some-clause-word
returns-in-Some-clause-word c = λ admitted.
    subst (λ r. Admits r (get nat_eq c.args.buckets.now c.args.key) c.args.t) (sym c.in-Some.is)
    ((c.bucket_of.ensures.word c.args.t).0 (c.admits.ensures.word.0 admitted))
