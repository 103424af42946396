use Rattle.std.proofs.Common.{ap, ◌∙◌, subst}
use Rattle.turnstile.specs.inside.Steps.{looked}
use Rattle.turnstile.proofs.TurnMoves.{looks, missed}
use Rattle.turnstile.proofs.steps.wait_for.Goals as goal

pub look-served-requires-clause-allowed : goal.look-served-requires-clause-allowed
look-served-requires-clause-allowed g c = let w = c.requires.waits in let same = c.loop.invariant.2 in
    looks g.T.Chronicle.shown _ _ _ (ap (λ m. m.0.spent) same ∙ w.4) w.0 (ap (λ m. m.0.ticket) same ∙ w.1) (ap (λ m. m.0.took) same ∙ w.3) (ap (λ m. m.1) same ∙ w.5)

pub returns-then-served-ticket-clause-took : goal.returns-then-served-ticket-clause-took
returns-then-served-ticket-clause-took g c = let w = c.requires.waits in
    let told = subst (λ m. looked g.T.Chronicle.shown m c.look-served.result c.look-served.new.seat.me) c.loop.invariant.2 c.look-served.ensures.told in
    (told w.0 w.1 w.3 w.4 w.5).0 (c.if-served-ticket.true ∙ w.2)

pub loop-preserved-then-looks-lt-LOOKS : goal.loop-preserved-then-looks-lt-LOOKS
loop-preserved-then-looks-lt-LOOKS g c = let at = c.loop.invariant in let look = c.look-served.ensures in (
  look.seat.0 ∙ at.0,
  look.seat.1 ∙ at.1,
  missed g.T.Chronicle.shown c.requires.waits (subst (λ m. looked g.T.Chronicle.shown m c.look-served.result c.look-served.new.seat.me) at.2 look.told) c.if-served-ticket.false,
)

pub loop-preserved : goal.loop-preserved
loop-preserved g c = let at = c.loop.invariant in let look = c.look-served.ensures in (
  look.seat.0 ∙ at.0,
  look.seat.1 ∙ at.1,
  missed g.T.Chronicle.shown c.requires.waits (subst (λ m. looked g.T.Chronicle.shown m c.look-served.result c.look-served.new.seat.me) at.2 look.told) c.if-served-ticket.false,
)
