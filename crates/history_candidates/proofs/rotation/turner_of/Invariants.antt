use Rattle.std.proofs.Common.{◌≡◌, take}
use Rattle.policy_core.specs.Rotation.{weights_of}
use Rattle.history_core.specs.Candidates.{place_of}
use Rattle.history_candidates.proofs.rotation.turner_of.Given as goal

abbrev pub invariant-loop-place : goal.invariant-loop-place
invariant-loop-place l = l.turner ≡ record { weights = weights_of l.pool; last = place_of l.policy l.pool (take l.place l.entries) }
