use Rattle.std.proofs.Common.{◌≡◌, take, fold, false}
use Rattle.history_core.specs.Ready.{is_ready_after}
use Rattle.history_candidates.proofs.ready.is_ready.Given as goal

abbrev pub invariant-loop-entry : goal.invariant-loop-entry
invariant-loop-entry l = l.ready ≡ fold (λ was e. is_ready_after l.id was e.what) false (take l.entry-index l.entries)
