use Rattle.std.proofs.Common.{◌≡◌, take}
use Rattle.history_core.specs.History.{last_moment}
use Rattle.history_walk.proofs.legal.last_moment.Given as goal

abbrev pub invariant-loop-entry : goal.invariant-loop-entry
invariant-loop-entry l =
    l.last ≡ last_moment (take l.entry-index l.entries)
