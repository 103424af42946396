use Rattle.std.proofs.Common.{[], ◌∷◌, ◌++◌, Result, Ok, Err, OnOk, IsOk, sym, subst}
use Rattle.std.proofs.lemmas.Bool.{true≢false}
use Rattle.std.specs.Prelude.{nat_eq}
use Rattle.indexmap.specs.IndexMap.{get}
use Rattle.kumo_base.specs.Moment.{clamped}
use Rattle.path_lease.specs.Standing.{IsCounted}
use Rattle.path_lease.specs.Allowed.{Admits}
use Rattle.path_lease.proofs.RateLemmas.{taken}
use Rattle.path_lease.proofs.rates.count.Goals as goal

-- what holds where a call succeeded, and it did
at_ok : {T E P : Type 0} (r : Result T E) → IsOk r → OnOk r P → P
at_ok (Ok x) is h = h
at_ok (Err e) is h = absurd (true≢false (sym is))

pub take-requires : goal.take-requires
take-requires c =
    (c.bucket_of-bucket.ensures.word c.args.t).1
    (subst (λ r. Admits r (get nat_eq c.args.buckets.now c.args.key) c.args.t) c.in-Some.is c.requires.admitted)

pub returns-in-Some-clause-counted : goal.returns-in-Some-clause-counted
returns-in-Some-clause-counted c = λ moments counted.
    let at = subst (λ r. IsCounted r moments (get nat_eq c.args.buckets.now c.args.key)) c.in-Some.is counted in
    let e = c.insert-counted.ensures in
    let updates = at_ok c.insert-counted.result (e.succeeds c.requires.room) e.updates in
    let now = taken c.args.rate c.in-Some.rate moments c.args.t c.bucket_of-bucket.result c.take.new.self c.in-Some.is c.take.ensures.throttle c.take.ensures.stands (c.bucket_of-bucket.ensures.counted moments at) in
    subst (λ o. IsCounted c.args.rate (moments ++ clamped c.args.t ∷ []) o) (sym updates.1) now
