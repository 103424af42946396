-- What the sweep appends next where one message is pending.
use Rattle.std.proofs.Common.{◌≡◌, ℕ, List, [], ◌∷◌, true, false, Some, None, refl}
use Rattle.queue_name.specs.declared.message.Message.{Message}
use Rattle.policy_core.specs.Policy.{Policy}
use Rattle.history_core.specs.declared.entry.Entry.{Entry}
use Rattle.history_core.specs.declared.entry.Event.TheVariants.{Promoted}
use Rattle.history_core.specs.Fate.{pending}
use Rattle.history_core.specs.Candidates.{is_resolvable, is_delayable, is_promotable, pick_for}
use Rattle.history_core.specs.Sweep.{next_swept}

module _ (policy : Policy) (h : List Entry) (t : ℕ) (m : Message) (one : pending h ≡ m ∷ [])
    (unresolved : is_resolvable policy h t m ≡ false) (undelayed : is_delayable policy h t m ≡ false) where
  -- the message is promoted to the source that is picked
  pub sweep_promotes : (source : List ℕ) → is_promotable policy h t m ≡ true → pick_for policy h t m ≡ Some source
      → next_swept policy h t ≡ Some (Promoted m.id source)
  unfolding next_swept
  sweep_promotes source ready picked = rw (one, unresolved, undelayed, ready, picked) refl

  -- nothing is left
  pub sweep_is_done : is_promotable policy h t m ≡ false → next_swept policy h t ≡ None
  unfolding next_swept
  sweep_is_done unready = rw (one, unresolved, undelayed, unready) refl
