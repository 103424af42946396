use Rattle.std.proofs.Common.{◌≡◌, ◌≤◌, take}
use Rattle.history_core.specs.Candidates.{refusals}
use Rattle.history_candidates.proofs.refusals.refusals.Given as goal

abbrev pub invariant-loop-place : goal.invariant-loop-place
invariant-loop-place l = (l.run ≡ refusals (take l.place l.entries) l.text) × (l.run ≤ l.place)
