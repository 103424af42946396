use Rattle.std.proofs.Common.{take}
use Rattle.history_core.specs.Limits.{opened_moments}
use Rattle.history_automation.specs.inside.Filled.{IsFilled}
use Rattle.history_automation.proofs.rates.opened_bucket.Given as goal

abbrev pub invariant-loop-entry : goal.invariant-loop-entry
invariant-loop-entry l = IsFilled l.rate (opened_moments (take l.entry-index l.entries) l.text l.key) l.filled
