use Rattle.std.proofs.Common.{◌≡◌, drop, find}
use Rattle.history_core.specs.Ready.{ready_among, is_free_id}
use Rattle.history_candidates.proofs.ready.first_free.Given as goal

abbrev pub invariant-loop-promoted : goal.invariant-loop-promoted
invariant-loop-promoted l =
    find (is_free_id l.policy l.entries l.t) (ready_among l.promotions l.entries l.path)
    ≡ find (is_free_id l.policy l.entries l.t) (ready_among (drop l.promoted-index l.promotions) l.entries l.path)
