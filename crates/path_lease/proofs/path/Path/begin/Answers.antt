use Rattle.std.proofs.Common.{◌≡◌, ◌∷◌, ◌++◌, [], true, refl, sym, subst, nat_eq, arith}
use Rattle.kumo_base.specs.Moment.{clamped}
use Rattle.indexmap.specs.IndexMap.{get}
use Rattle.path_lease.specs.Calls.{beginnings_under}
use Rattle.path_lease.specs.Standing.{kept_at, StandsFor, IsCounted}
use Rattle.path_lease.specs.Allowed.{Admits, IsIdle, goes_on}
use Rattle.path_lease.proofs.AllowedLemmas.{at_rest_kept, has_attempts}
use Rattle.path_lease.proofs.StandingLemmas.{begun_one, beginning_at}
use Rattle.path_lease.proofs.path.Path.begin.Goals as goal

pub begin_attempt-requires : goal.begin_attempt-requires
begin_attempt-requires c =
    let now = c.args.now.now in
    let goes = subst (λ p. goes_on now c.args.t (kept_at p.connections c.args.conn) ≡ true) (sym c.self.view_is) c.requires.allowed.goes_on in
    has_attempts now c.args.t (kept_at c.self.inside.connections.entries c.args.conn) (omega arith) goes

pub count-requires-clause-admitted : goal.count-requires-clause-admitted
count-requires-clause-admitted c =
    let now = c.args.now.now in
    subst (λ p. Admits now.message_rate (kept_at p.begun now.message_key) c.args.t) (sym c.self.view_is) c.requires.allowed.message

pub returns-clause-stands : goal.returns-clause-stands
returns-clause-stands c = λ rates calls is agrees.
    let key = c.args.now.now.message_key in
    let stands = subst (λ p. StandsFor p rates calls) (sym c.self.view_is) is in
    let there = at_rest_kept (kept_at c.self.inside.connections.entries c.args.conn) (subst (λ p. IsIdle p c.args.conn) (sym c.self.view_is) c.requires.allowed.idle) in
    begun_one _ _ rates calls c.args.t c.args.conn key there.0 stands there.1
    (c.begin_attempt.ensures.updates there.0 there.1) c.begin_attempt.ensures.len
    (subst (λ r. IsCounted r (beginnings_under calls key ++ clamped c.args.t ∷ []) (get nat_eq c.count.new.buckets key)) (sym agrees.message)
    (c.count.ensures.counted (beginnings_under calls key) (beginning_at _ rates calls c.args.now.now stands agrees)))
    c.count.ensures.others refl refl
