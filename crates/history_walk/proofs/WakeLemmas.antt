-- The wake-up, found list by list.
use Rattle.std.proofs.Common.{◌≡◌, ℕ, List, ◌++◌, fold, map, refl, sym, ap, ◌∙◌}
use Rattle.std.proofs.lemmas.List.Sums.{fold-append}
use Rattle.kumo_base.specs.Limits.{latest_moment}
use Rattle.history_core.specs.declared.path.Path.{Path}
use Rattle.history_core.specs.declared.rule_match.RuleMatch.{RuleMatch}
use Rattle.history_core.specs.History.{paths}
use Rattle.history_core.specs.Firing.{firings}
use Rattle.history_core.specs.Wake.{due_marks, age_marks, order_marks, firing_marks, rate_marks, stale_marks, earlier_after, wake}
use Rattle.history_automation.specs.declared.paths.KnownPath.{KnownPath}
use Rattle.history_automation.specs.Known.{known_path}
use Rattle.history_walk.specs.Scene.{SceneState}
use Rattle.history_walk.specs.inside.Marks.{firing_marks_among, rate_marks_among}
use Rattle.history_candidates.proofs.LeastPaths.{paths_of_known}

-- seven lists one behind another
fold_parts : {A B : Type 0} (f : B → A → B) (b : B) (v w x y z u s : List A)
    → fold f b ((v ++ (w ++ (x ++ (y ++ (z ++ u))))) ++ s)
    ≡ fold f (fold f (fold f (fold f (fold f (fold f (fold f b v) w) x) y) z) u) s
fold_parts f b v w x y z u s = simp fold-append refl

module _ (s : SceneState) (t : ℕ) (now : t ≡ s.moment) where
  abbrev from : ℕ → List ℕ → ℕ
  from first moments = fold (earlier_after t) first moments

  pub wake_is : (due age order firing rate stale stop : ℕ) (fired : List RuleMatch) (ks : List KnownPath)
      → fired ≡ firings s.policy s.history → ks ≡ map (known_path s.policy) (paths s.policy s.history)
      → due ≡ from latest_moment (due_marks s.history)
      → age ≡ from due (age_marks s.policy s.history)
      → order ≡ from age (order_marks s.history t)
      → firing ≡ from order (firing_marks_among t fired)
      → rate ≡ fold (earlier_after s.moment) firing (rate_marks_among s (map (λ k. k.path) ks))
      → stale ≡ fold (earlier_after s.moment) rate (stale_marks s.policy s.history s.moment)
      → stop ≡ from stale s.policy.stops
      → stop ≡ wake s.policy s.history s.moment
  wake_is due age order firing rate stale stop fired ks are known e1 e2 e3 e4 e5 e6 e7 =
      let h = s.history in
      let at_order : order ≡ from (from (from latest_moment (due_marks h)) (age_marks s.policy h)) (order_marks h t) =
      e3 ∙ ap (λ (b : ℕ). from b (order_marks h t)) (e2 ∙ ap (λ (b : ℕ). from b (age_marks s.policy h)) e1) in
      let at_firing : firing ≡ from (from (from (from latest_moment (due_marks h)) (age_marks s.policy h)) (order_marks h t)) (firing_marks s.policy h t) =
      e4 ∙ ap (λ (fs : List RuleMatch). from order (firing_marks_among t fs)) are ∙ ap (λ (b : ℕ). from b (firing_marks s.policy h t)) at_order in
      let at_rate : rate ≡ fold (earlier_after s.moment) firing (rate_marks s.policy h s.moment) =
      e5 ∙ ap (λ (ps : List Path). fold (earlier_after s.moment) firing (rate_marks_among s ps)) (paths_of_known s.policy h ks known) in
      let at_stop : stop ≡ from (fold (earlier_after s.moment) (fold (earlier_after s.moment) firing (rate_marks s.policy h s.moment)) (stale_marks s.policy h s.moment)) s.policy.stops =
      e7 ∙ ap (λ (b : ℕ). from b s.policy.stops) (e6 ∙ ap (λ (b : ℕ). fold (earlier_after s.moment) b (stale_marks s.policy h s.moment)) at_rate) in
      at_stop ∙ rw (at_firing, now) (sym (fold_parts (earlier_after s.moment) latest_moment (due_marks h) (age_marks s.policy h) (order_marks h s.moment) (firing_marks s.policy h s.moment) (rate_marks s.policy h s.moment) (stale_marks s.policy h s.moment) s.policy.stops))
