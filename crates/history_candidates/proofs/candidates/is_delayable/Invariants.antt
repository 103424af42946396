use Rattle.std.proofs.Common.{◌≡◌, drop, ◌&&◌, ◌==◌}
use Rattle.std.specs.List.{list_any}
use Rattle.history_core.specs.Ready.{standing_among}
use Rattle.history_core.specs.Candidates.{is_put_off}
use Rattle.history_candidates.proofs.candidates.is_delayable.Given as goal

abbrev pub invariant-loop-promoted : goal.invariant-loop-promoted
invariant-loop-promoted l =
    list_any (λ p. p.id == l.message.id && is_put_off l.policy l.entries l.t p) (standing_among l.promotions l.entries)
    ≡ list_any (λ p. p.id == l.message.id && is_put_off l.policy l.entries l.t p)
    (standing_among (drop l.promoted-index l.promotions) l.entries)
