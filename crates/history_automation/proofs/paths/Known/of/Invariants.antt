use Rattle.std.proofs.Common.{take}
use Rattle.history_automation.specs.Known.{IsKnown}
use Rattle.history_automation.proofs.paths.Known.of.Given as goal

abbrev pub invariant-loop-place : goal.invariant-loop-place
invariant-loop-place l = IsKnown l.policy (take l.place l.entries) l.known
