use Rattle.std.proofs.Common.{◌≡◌, take}
use Rattle.history_core.specs.Candidates.{last_refusal}
use Rattle.history_candidates.proofs.refusals.last_refusal.Given as goal

abbrev pub invariant-loop-place : goal.invariant-loop-place
invariant-loop-place l = l.last ≡ last_refusal (take l.place l.entries) l.text
