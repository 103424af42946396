use Rattle.std.proofs.Common.{◌≡◌, ◌++◌, take, drop}
use Rattle.history_core.specs.History.{along_from}
use Rattle.history_core.specs.Firing.{fired_at}
use Rattle.history_automation.proofs.replies.firings_among.Given as goal

abbrev pub invariant-loop-place : goal.invariant-loop-place
invariant-loop-place l =
    l.firings.items ++ along_from fired_at (l.before ++ take l.place l.found) (drop l.place l.found) ≡ along_from fired_at l.before l.found
