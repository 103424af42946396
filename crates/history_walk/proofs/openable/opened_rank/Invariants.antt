use Rattle.std.proofs.Common.{◌≡◌, drop, fold}
use Rattle.history_core.specs.Connection.{connections}
use Rattle.history_core.specs.Openable.{rank_after}
use Rattle.history_walk.proofs.openable.opened_rank.Given as goal

abbrev pub invariant-loop-entry : goal.invariant-loop-entry
invariant-loop-entry l =
    fold (rank_after l.text) 0 (connections l.entries) ≡ fold (rank_after l.text) l.rank (connections (drop l.entry-index l.entries))
