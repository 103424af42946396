use Rattle.std.proofs.Common.{◌<◌, ℕ}
use Rattle.throttle_spec.specs.Throttle.{PairFits}
use Rattle.throttle_spec.proofs.conforming.all_fit.Given as goal

-- the places passed fit
abbrev pub invariant-loop-i : goal.invariant-loop-i
invariant-loop-i l = (i : ℕ) → i < l.i → PairFits l.spec l.moments i l.j
