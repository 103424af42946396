use Rattle.std.proofs.Common.{◌≤◌, ℕ, All, length}
use Rattle.spool_store.proofs.rewrite.largest.Given as goal

abbrev pub invariant-loop-place : goal.invariant-loop-place
invariant-loop-place l = record {
  bound : (n : ℕ) → l.most ≤ n → All (λ p. p.size ≤ n) l.walk → All (λ p. p.size ≤ n) l.pending;
  least : (n : ℕ) → All (λ p. p.size ≤ n) l.pending → (l.most ≤ n) × All (λ p. p.size ≤ n) l.walk;
}

abbrev pub decreases-loop-place : goal.decreases-loop-place
decreases-loop-place l = length l.walk
