-- The message that is due first, found from the front.
use Rattle.std.proofs.Common.{◌≡◌, ℕ, nat_le, List, ◌∷◌, Bool, true, false, cond, Option, Some, None, filter, refl, ap, ◌∙◌}
use Rattle.queue_name.specs.declared.message.Message.{Message}
use Rattle.policy_core.specs.Policy.{Policy}
use Rattle.history_core.specs.declared.entry.Entry.{Entry}
use Rattle.history_core.specs.Retry.{due}
use Rattle.history_core.specs.Candidates.{is_promotable}
use Rattle.history_core.specs.Openable.{lesser, least_by}
use Rattle.history_candidates.specs.inside.Soonest.{soonest_among, soonest_with, is_no_later}
use Rattle.history_candidates.proofs.LeastPaths.{lesser_twice}

module _ (policy : Policy) (h : List Entry) (t : ℕ) where
  kept_best : (b m : Message) (rest : List Message) (promotable : Bool) → nat_le (due h b) (due h m) ≡ true
      → lesser (due h) b (least_by (due h) (cond promotable (m ∷ rest) rest)) ≡ lesser (due h) b (least_by (due h) rest)
  kept_best b m rest true early = lesser_twice (due h) b m (least_by (due h) rest) ∙ ap (λ (le : Bool). lesser (due h) (cond le b m) (least_by (due h) rest)) early
  kept_best b m rest false early = refl

  -- one that is not due before what was found changes nothing
  pub no_sooner : (best : Option Message) (m : Message) (later : List Message) → is_no_later h best m ≡ true
      → soonest_with policy h t best (m ∷ later) ≡ soonest_with policy h t best later
  no_sooner None m later early = absurd cc
  no_sooner (Some b) m later early = kept_best b m (filter (is_promotable policy h t) later) (is_promotable policy h t m) early

  -- one that may not be promoted changes nothing
  pub passed_over : (best : Option Message) (m : Message) (later : List Message) → is_promotable policy h t m ≡ false
      → soonest_with policy h t best (m ∷ later) ≡ soonest_with policy h t best later
  passed_over best m later never = rw never refl

  -- one that may, and is due before, takes its place
  pub sooner : (best : Option Message) (m : Message) (later : List Message) → is_promotable policy h t m ≡ true → is_no_later h best m ≡ false
      → soonest_with policy h t best (m ∷ later) ≡ soonest_with policy h t (Some m) later
  sooner None m later may late = rw may refl
  sooner (Some b) m later may late =
      rw may (lesser_twice (due h) b m (soonest_among policy h t later) ∙ ap (λ (le : Bool). lesser (due h) (cond le b m) (soonest_among policy h t later)) late)
