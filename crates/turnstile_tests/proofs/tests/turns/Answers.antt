use Rattle.std.proofs.Common.{refl, ◌∙◌}
use Rattle.turnstile_tests.proofs.tests.turns.Goals as goal

pub loop-i-init : goal.loop-i-init
loop-i-init g c = (refl, c.requires.1, refl, refl, refl)

pub mark_turn-requires-clause-table : goal.mark_turn-requires-clause-table
mark_turn-requires-clause-table g c = c.loop-i.invariant.0 ∙ c.requires.0

pub mark_turn-requires-clause-idle : goal.mark_turn-requires-clause-idle
mark_turn-requires-clause-idle g c = c.loop-i.invariant.1

pub loop-i-preserved : goal.loop-i-preserved
loop-i-preserved g c = let was = c.loop-i.invariant in let kept = c.mark_turn.ensures.place in (kept.0 ∙ was.0, kept.1, kept.2 ∙ was.2, kept.3 ∙ was.3, kept.4 ∙ was.4)

pub returns : goal.returns
returns g c = c.loop-i.invariant
