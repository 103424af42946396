use Rattle.std.proofs.Common.{◌+◌, ◌%◌, ◌^◌, ap, ◌∙◌, refl, Some, ◌∷◌, [], true}
use Rattle.atomic_table.specs.Table.{rest}
use Rattle.turnstile.specs.Views.{known}
use Rattle.turnstile.specs.inside.Steps.{fetched, passed}
use Rattle.turnstile.proofs.TurnMoves.{at_seat, fetches, passes}
use Rattle.turnstile.proofs.stile.Turnstile.leave.Goals as goal

pub look-requires-clause-allowed : goal.look-requires-clause-allowed
look-requires-clause-allowed g c = let p = c.args.pass.now in let h = c.requires.follows in
    at_seat g.T.Chronicle.shown (λ n. n) (fetched g.T.Chronicle.shown) c.take_seat-seat.ensures.view (fetches g.T.Chronicle.shown _ _ (known p.badge.views, []) p.resting.0 h.0 h.1 p.resting.1 refl)

pub count_up-served-requires-clause-allowed : goal.count_up-served-requires-clause-allowed
count_up-served-requires-clause-allowed g c = let p = c.args.pass.now in let h = c.requires.follows in let back = (0, Some c.args.value) ∷ [] in
    at_seat g.T.Chronicle.shown (λ n. (n + 1) % 2 ^ 64) (passed g.T.Chronicle.shown)
    (c.exchange-old.ensures.3 ∙ ap (λ m. (m.0, (0, Some c.args.value) ∷ rest m.1)) c.look.ensures.told ∙ ap (λ m. (record m.0 { away = true }, back)) c.take_seat-seat.ensures.view)
    (passes g.T.Chronicle.shown _ _ _ p.resting.0 h.0 h.1 refl c.args.value refl h.2)
