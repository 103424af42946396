use Rattle.std.proofs.Common.{◌≡◌, Some, drop, option_map, IfSome}
use Rattle.history_core.specs.Candidates.{pick_for}
use Rattle.history_candidates.specs.inside.Soonest.{soonest_among, soonest_with, pending_among}
use Rattle.history_candidates.proofs.promotion.soonest.Given as goal

abbrev pub invariant-loop-entry : goal.invariant-loop-entry
invariant-loop-entry l = record {
  soonest : soonest_among l.policy l.entries l.t (pending_among l.entries l.entries)
      ≡ soonest_with l.policy l.entries l.t (option_map (λ c. c.message.now) l.best) (pending_among l.entries (drop l.entry-index l.entries));
  pick : IfSome l.best (λ c. pick_for l.policy l.entries l.t c.message.now ≡ Some c.source);
}
