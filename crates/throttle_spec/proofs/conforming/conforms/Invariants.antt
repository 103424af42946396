use Rattle.std.proofs.Common.{◌<◌, ◌≤◌, ℕ}
use Rattle.throttle_spec.specs.Throttle.{PairFits}
use Rattle.throttle_spec.proofs.conforming.conforms.Given as goal

-- the pairs that end at the places passed fit
abbrev pub invariant-loop-j : goal.invariant-loop-j
invariant-loop-j l = (j : ℕ) → j < l.j → (i : ℕ) → i ≤ j → PairFits l.spec l.moments i j
