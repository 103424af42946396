use Rattle.std.proofs.Common.{◌≡◌, ℕ, drop, fold}
use Rattle.history_walk.proofs.rows.last_of.Given as goal

abbrev pub invariant-loop-stop : goal.invariant-loop-stop
invariant-loop-stop l =
    fold (λ (was : ℕ) (stop : ℕ). stop) 0 l.stops ≡ fold (λ (was : ℕ) (stop : ℕ). stop) l.last (drop l.stop-index l.stops)
