-- What the sweep takes next may follow.
use Rattle.std.proofs.Common.{◌≡◌, ◌⊎◌, inl, inr, ⊎_elim, ℕ, ◌+◌, ◌-◌, ◌≤◌, eqb, List, [], ◌∷◌, Bool, true, false, cond, nat_lt, Option, Some, None, option_map, filter, find, length, arith, refl, sym, ap, subst, ◌∙◌}
use Rattle.std.specs.List.{Contains}
use Rattle.std.specs.Option.{option_or, option_and_then}
use Rattle.std.proofs.lemmas.Bool.{eq-eqb, false≢true}
use Rattle.std.proofs.lemmas.Option.{same_Some}
use Rattle.kumo_base.specs.Limits.{latest_moment}
use Rattle.kumo_base.specs.Moment.{clamped}
use Rattle.queue_name.specs.declared.message.Message.{Message}
use Rattle.policy_core.specs.Policy.{Policy}
use Rattle.policy_core.specs.Delays.{delay_after}
use Rattle.history_core.specs.declared.entry.Entry.{Entry}
use Rattle.history_core.specs.declared.entry.Event.{Event}
use Rattle.history_core.specs.declared.entry.Event.TheVariants.{Promoted, Delayed}
use Rattle.history_core.specs.declared.entry.Next.TheVariants.{Due, Expired}
use Rattle.history_core.specs.History.{has_id, has_stopped, last_moment, messages}
use Rattle.history_core.specs.Fate.{fate_of, pending}
use Rattle.history_core.specs.Retry.{due, failures, next_after, one_more_failure, settings_for}
use Rattle.history_core.specs.Candidates.{is_delayable, is_promotable, is_resolvable, pick_for}
use Rattle.history_core.specs.Openable.{least_by}
use Rattle.history_core.specs.Sweep.{resolution, next_resolved, next_delayed, promotion_by, next_promoted, next_swept}
use Rattle.history_core.specs.Proper.{FitsDelay, IsProperEvent}
use Rattle.history_core.specs.Legal.{IsLegal, MayFollow, Row}
use Rattle.history_core.proofs.Lists.{Passing, find-filter, find_there, there_cases, there_filter, there_none, filter_there}
use Rattle.history_core.proofs.Numbers.{messages-once}

no_items : {X : Type 0} (xs : List X) → length xs ≤ 0 → xs ≡ []
no_items [] short = refl
no_items (x ∷ xs) short = absurd (omega (arith, short))

once_next : {X : Type 0} (p : X → Bool) (z : X) (zs : List X) (x : X) (b : Bool) → p z ≡ b → length (cond b (z ∷ filter p zs) (filter p zs)) ≤ 1
    → Contains (z ∷ zs) x → p x ≡ true → (length (filter p zs) ≤ 1 → Contains zs x → find p zs ≡ Some x) → cond b (Some z) (find p zs) ≡ Some x
once_next p z zs x true passes once there at later =
    ⊎_elim
    (λ same. ap Some same)
    (λ behind. absurd (there_none x (subst (λ fs. Contains fs x) (no_items (filter p zs) (omega (arith, once))) (there_filter p zs x behind at))))
    (there_cases z zs x there)
once_next p z zs x false fails once there at later =
    ⊎_elim
    (λ same. absurd (false≢true (sym fails ∙ ap p same ∙ at)))
    (λ behind. later once behind)
    (there_cases z zs x there)

-- the only one that passes a test is found by it
once_found : {X : Type 0} (p : X → Bool) (xs : List X) (x : X) → length (filter p xs) ≤ 1 → Contains xs x → p x ≡ true → find p xs ≡ Some x
once_found p [] x once there at = absurd (there_none x there)
once_found p (z ∷ zs) x once there at =
    once_next p z zs x (p z) refl once there at (λ short behind. once_found p zs x short behind at)

one_of_three : (a b c : Option Event) (e : Event) → option_or a (option_or b c) ≡ Some e → (a ≡ Some e) ⊎ ((b ≡ Some e) ⊎ (c ≡ Some e))
one_of_three (Some x) b c e is = inl is
one_of_three None (Some x) c e is = inr (inl is)
one_of_three None None c e is = inr (inr is)

fits_if : (expired : Bool) (n : ℕ) → FitsDelay (cond expired Expired (Due (clamped n)))
fits_if true n = tt
fits_if false n = omega arith

-- what comes of a failure is a moment or the end
fits : (policy : Policy) (h : List Entry) (t : ℕ) (m : Message) → FitsDelay (next_after policy h t m)
fits policy h t m =
    let settings = settings_for policy m in
    let moment = t + delay_after settings (one_more_failure (failures h m.id)) in
    fits_if (nat_lt settings.max_age (clamped moment - m.created)) moment

module _ (policy : Policy) (h : List Entry) (t who : ℕ) (legal : IsLegal policy h) where
  record MayCome (event : Event) : Type 0 where
    row : Row policy h t who event
    proper : IsProperEvent event

  found_again : (m : Message) → Contains (pending h) m → find (has_id m.id) (pending h) ≡ Some m
  found_again m waits =
      let there : Passing (λ m. eqb (length (fate_of h m.id)) 0) (messages h) m = filter_there (λ m. eqb (length (fate_of h m.id)) 0) (messages h) m waits in
      find-filter (has_id m.id) (λ m. eqb (length (fate_of h m.id)) 0) (messages h) m
      (once_found (has_id m.id) (messages h) m (messages-once policy h legal m.id) there.0 (eq-eqb m.id m.id refl)) there.1

  resolved_comes : (event : Event) (o : Option Message) → find (is_resolvable policy h t) (pending h) ≡ o
      → option_map (resolution h t) o ≡ Some event → MayCome event
  resolved_comes event None found is = absurd cc
  resolved_comes event (Some m) found is =
      let there : Passing (is_resolvable policy h t) (pending h) m = find_there (is_resolvable policy h t) (pending h) m found in
      subst MayCome (same_Some _ _ is) (record { row = (m, found_again m there.0, (there.1, refl)); proper = tt })

  delayed_comes : (event : Event) (o : Option Message) → find (is_delayable policy h t) (pending h) ≡ o
      → option_map (λ m. Delayed m.id (next_after policy h t m)) o ≡ Some event → MayCome event
  delayed_comes event None found is = absurd cc
  delayed_comes event (Some m) found is =
      let there : Passing (is_delayable policy h t) (pending h) m = find_there (is_delayable policy h t) (pending h) m found in
      subst MayCome (same_Some _ _ is) (record { row = (m, found_again m there.0, (there.1, refl)); proper = fits policy h t m })

  source_comes : (event : Event) (id : ℕ) (o : Option (List ℕ)) → next_swept policy h t ≡ Some event → option_map (Promoted id) o ≡ Some event → MayCome event
  source_comes event id None swept is = absurd cc
  source_comes event id (Some source) swept is =
      let same : Promoted id source ≡ event = same_Some _ _ is in
      subst MayCome same (record { row = swept ∙ ap Some (sym same); proper = tt })

  promoted_comes : (event : Event) (o : Option Message) → next_swept policy h t ≡ Some event
      → option_and_then (λ m. promotion_by m (pick_for policy h t m)) o ≡ Some event → MayCome event
  promoted_comes event None swept is = absurd cc
  promoted_comes event (Some m) swept is = source_comes event m.id (pick_for policy h t m) swept is

  comes : (event : Event) → next_swept policy h t ≡ Some event → MayCome event
  unfolding next_swept
  comes event swept =
      ⊎_elim
      (λ first. resolved_comes event (find (is_resolvable policy h t) (pending h)) refl first)
      (λ later. ⊎_elim
      (λ second. delayed_comes event (find (is_delayable policy h t) (pending h)) refl second)
      (λ third. promoted_comes event (least_by (due h) (filter (is_promotable policy h t) (pending h))) swept third)
      later)
      (one_of_three (next_resolved policy h t) (next_delayed policy h t) (next_promoted policy h t) event swept)

  -- what the sweep takes next may follow
  pub swept_may : (event : Event) → next_swept policy h t ≡ Some event → has_stopped h ≡ false → last_moment h ≤ t → t ≤ latest_moment
      → MayFollow policy h (record { at = t; who = who; what = event })
  swept_may event swept running later latest =
      let may : MayCome event = comes event swept in
      record { running = running; proper = record { moment = latest; event = may.proper }; later = later; row = may.row }
