use Rattle.turnstile.specs.Passes.{KeepsPlace}
use Rattle.turnstile_tests.proofs.tests.turns.Given as goal

abbrev pub invariant-loop-i : goal.invariant-loop-i
invariant-loop-i g l = KeepsPlace l.initial.pass l.pass
