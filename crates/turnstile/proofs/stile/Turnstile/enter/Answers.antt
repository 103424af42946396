use Rattle.std.proofs.Common.{◌+◌, ◌%◌, ◌^◌, refl, sym, ap, ◌∙◌, subst, Some, None, ◌∷◌, [], true, false}
use Rattle.atomic_table.specs.Table.{rest}
use Rattle.turnstile.specs.Rule.{Knows}
use Rattle.turnstile.specs.Views.{known}
use Rattle.turnstile.specs.inside.Steps.{drew, laid}
use Rattle.turnstile.proofs.OneView.{some_same}
use Rattle.turnstile.proofs.TurnMoves.{at_seat, draws, lays, carried_first}
use Rattle.turnstile.proofs.Seats.{no_ticket}
use Rattle.turnstile.proofs.stile.Turnstile.enter.Goals as goal

pub count_up-ticket-requires-clause-allowed : goal.count_up-ticket-requires-clause-allowed
count_up-ticket-requires-clause-allowed g c = let p = c.args.pass.now in let free = c.requires.idle in
    at_seat g.T.Chronicle.shown (λ n. (n + 1) % 2 ^ 64) (drew g.T.Chronicle.shown) c.take_seat-seat.ensures.view (draws g.T.Chronicle.shown _ _ (known p.badge.views, []) (no_ticket _ _ p.ticketed free) free p.resting.0)

pub exchange-held-requires : goal.exchange-held-requires
exchange-held-requires g c = let took = c.wait_for.ensures.took in (
  c.wait_for.ensures.seat.0 ∙ c.count_up-ticket.ensures.seat.0 ∙ c.take_seat-seat.ensures.table ∙ c.requires.table,
  (Some took.0, ap (λ m. m.1) took.1 ∙ sym (ap (λ m. (0, Some took.0) ∷ rest m.1) took.1)),
)

pub look-requires-clause-allowed : goal.look-requires-clause-allowed
look-requires-clause-allowed g c = let took = c.wait_for.ensures.took in let drew = c.count_up-ticket.ensures.told in
    let seen = Some (g.T.Chronicle.shown took.0) in
    let is = c.exchange-held.ensures.3 ∙ ap (λ m. (m.0, (0, None) ∷ rest m.1)) took.1
    ∙ ap (λ m. (record m.0 { took = seen; away = true }, (0, None) ∷ [])) drew.2
    ∙ ap (λ m. (record m.0 { ticket = Some drew.0; took = seen; away = true }, (0, None) ∷ [])) c.take_seat-seat.ensures.view in
    at_seat g.T.Chronicle.shown (λ n. n) (laid g.T.Chronicle.shown) is (lays g.T.Chronicle.shown _ _ _ c.args.pass.now.resting.0 (g.T.Chronicle.shown took.0) refl refl refl)

pub returns : goal.returns
returns g c = let took = c.wait_for.ensures.took in let ticket = Some c.count_up-ticket.ensures.told.0 in let seen = Some (g.T.Chronicle.shown took.0) in
    let drawn = c.count_up-ticket.ensures.told.2 ∙ ap (λ m. (record m.0 { ticket = ticket }, m.1)) c.take_seat-seat.ensures.view in
    let value = some_same took.0 c.unwrap.result c.exchange-held.result (carried_first took.0 c.exchange-held.result _ _ (ap (λ m. m.1) took.1) c.exchange-held.ensures.2) c.unwrap.ensures in
    let is = ap known c.into_badge.ensures.2 ∙ ap (λ m. m.0) c.look.ensures.told ∙ ap (λ m. record m.0 { away = false }) c.exchange-held.ensures.3
    ∙ ap (λ m. record m.0 { away = false }) took.1 ∙ ap (λ m. record m.0 { took = seen; away = false }) drawn in
    let k = subst (λ y. Knows (g.T.Chronicle.shown y) (known c.args.pass.now.badge.views)) value (subst (λ m. Knows (g.T.Chronicle.shown took.0) m.0) drawn took.2) in record {
      table = c.into_badge.ensures.0 ∙ c.look.ensures.seat.0 ∙ c.exchange-held.ensures.0 ∙ c.wait_for.ensures.seat.0 ∙ c.count_up-ticket.ensures.seat.0 ∙ c.take_seat-seat.ensures.table;
      same = (ap (λ v. v.number) is, ap (λ v. v.seen) is, ap (λ v. v.met) is, ap (λ v. v.given) is);
      took = ap (λ v. v.took) is ∙ ap (λ y. Some (g.T.Chronicle.shown y)) value;
      stem = sym k.stem;
      prefix = k.begins;
      own = k.own;
      numbers = k.counts;
    }
