use Rattle.std.proofs.Common.{◌≡◌, ℕ, List, fold, ap, ◌∙◌}
use Rattle.policy_core.specs.Policy.{Policy}
use Rattle.history_core.specs.Wake.{earlier_after}
use Rattle.history_walk.proofs.WakeLemmas.{wake_is}
use Rattle.history_walk.proofs.scene.Scene.wake.Goals as goal

pub returns : goal.returns
returns c =
    let stops : c.as_slice.result.now ≡ c.args.self.now.policy.stops =
    c.as_slice.ensures ∙ ap (λ (p : Policy). p.stops) c.behind-self.view_is ∙ ap (λ (p : Policy). p.stops) c.policy-2.ensures in
    wake_is c.args.self.now c.moment-t.result c.moment-t.ensures _ _ _ _ _ _ _ c.firings.result.now c.paths.result.now c.firings.ensures c.paths.ensures
    (rw c.entries.ensures at c.earliest_due-due.ensures)
    (rw (c.policy.ensures, c.entries-2.ensures) at c.earliest_age-age.ensures)
    (rw c.entries-3.ensures at c.earliest_order-order.ensures)
    c.earliest_firing-firing.ensures
    c.earliest_rate-rate.ensures
    c.earliest_stale-stale.ensures
    (c.earliest_stop.ensures ∙ ap (λ (all : List ℕ). fold (earlier_after c.moment-t.result) c.earliest_stale-stale.result all) stops)
