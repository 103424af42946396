use Rattle.std.proofs.Common.{take}
use Rattle.history_core.specs.Limits.{begun_moments}
use Rattle.history_automation.specs.inside.Filled.{IsFilled}
use Rattle.history_automation.proofs.rates.begun_bucket.Given as goal

abbrev pub invariant-loop-place : goal.invariant-loop-place
invariant-loop-place l = IsFilled l.rate (begun_moments (take l.place l.entries) l.text l.key) l.filled
