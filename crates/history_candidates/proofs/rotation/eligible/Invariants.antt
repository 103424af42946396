use Rattle.std.proofs.Common.{◌≡◌, map, take}
use Rattle.history_core.specs.History.{path_for}
use Rattle.history_core.specs.Candidates.{has_room}
use Rattle.history_candidates.proofs.rotation.eligible.Given as goal

abbrev pub invariant-loop-entrant : goal.invariant-loop-entrant
invariant-loop-entrant l =
    l.flags.items ≡ map (λ e. has_room l.policy l.entries l.t (path_for l.policy l.message e.source)) (take l.entrant-index l.entrant-items)
