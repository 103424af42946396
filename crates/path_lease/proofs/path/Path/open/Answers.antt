use Rattle.std.proofs.Common.{◌≡◌, ◌+◌, ◌∷◌, ◌++◌, [], cond, refl, sym, ap, subst, ◌∙◌, nat_eq, is_some, Option, None, ℕ, Result, Ok, Err, OnOk, IfOk, IsOk, arith}
use Rattle.std.proofs.lemmas.Bool.{true≢false}
use Rattle.kumo_base.specs.Moment.{clamped}
use Rattle.indexmap.specs.IndexMap.{get, index_map_len}
use Rattle.path_lease.specs.Calls.{openings_under}
use Rattle.path_lease.specs.Standing.{kept_at, IsCounted, StandsFor}
use Rattle.path_lease.specs.Allowed.{Admits}
use Rattle.path_lease.proofs.StandingLemmas.{opened_one, not_kept}
use Rattle.path_lease.proofs.path.Path.open.Goals as goal

-- what holds where a call succeeded, and it did
at_ok : {T E P : Type 0} (r : Result T E) → IsOk r → OnOk r P → P
at_ok (Ok x) is h = h
at_ok (Err e) is h = absurd (true≢false (sym is))

-- one entry more, where the key was not there
one_more : {T E : Type 0} (r : Result (Option T) E) (p : Option T) (a b : ℕ) → IsOk r → IfOk r (λ o. o ≡ p) → p ≡ None
    → IfOk r (λ o. b ≡ a + cond (is_some o) 0 1) → b ≡ a + 1
one_more (Ok o) p a b is old none len = len ∙ ap (λ x. a + cond (is_some x) 0 1) (old ∙ none)
one_more (Err e) p a b is old none len = absurd (true≢false (sym is))

pub count-requires-clause-admitted : goal.count-requires-clause-admitted
count-requires-clause-admitted c =
    let now = c.args.now.now in
    subst (λ p. Admits now.connection_rate (kept_at p.opened now.connection_key) c.args.t) (sym c.self.view_is) c.requires.allowed.connection

pub returns-clause-stands : goal.returns-clause-stands
returns-clause-stands c = λ rates calls is agrees unknown.
    let key = c.args.now.now.connection_key in
    let stands = subst (λ p. StandsFor p rates calls) (sym c.self.view_is) is in
    let e = c.insert-opened.ensures in
    let room = e.succeeds (omega (arith, c.requires.room, ap (λ p. p.room_to_open) c.self.view_is)) in
    let updates = at_ok c.insert-opened.result room e.updates in
    let none : get nat_eq c.self.inside.connections c.args.conn ≡ None = stands.connections c.args.conn ∙ not_kept calls c.args.conn unknown in
    opened_one _ _ rates calls c.args.t c.args.conn key stands unknown
    updates.0
    (one_more c.insert-opened.result (get nat_eq c.self.inside.connections c.args.conn) (index_map_len c.self.inside.connections) (index_map_len c.insert-opened.new.self) room e.old none e.len)
    (subst (λ r. IsCounted r (openings_under calls key ++ clamped c.args.t ∷ []) (get nat_eq c.count.new.buckets key)) (sym agrees.connection)
    (c.count.ensures.counted (openings_under calls key) (subst (λ r. IsCounted r (openings_under calls key) (get nat_eq c.self.inside.opened key)) agrees.connection (stands.opened key))))
    c.count.ensures.others refl refl
