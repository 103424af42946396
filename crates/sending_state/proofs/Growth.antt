-- What a state keeps, with one more entry, and with one more entry examined.
use Rattle.std.proofs.Common.{◌≡◌, ℕ, ◌<◌, ◌+◌, List, [], ◌∷◌, ◌++◌, Option, None, length, take, arith, refl, sym, ap, subst, ◌∙◌}
use Rattle.std.specs.Option.{option_to_list, option_and_then, option_map}
use Rattle.std.proofs.lemmas.List.{length_push, take-append-le, take_all}
use Rattle.policy_core.specs.Policy.{Policy}
use Rattle.history_core.specs.declared.entry.Entry.{Entry}
use Rattle.history_core.specs.declared.entry.Event.{Event}
use Rattle.history_core.specs.declared.entry.Event.TheVariants.{Recovered, Accepted, Known as known_again, Promoted, Opened, Begun, Ended, Closed, Delayed, Ordered, Resumed, Resolved, Rested, Stopped}
use Rattle.history_core.specs.Events.{Promotion, promotion_in}
use Rattle.history_core.specs.History.{message_with, path_for}
use Rattle.history_core.specs.Firing.{firings}
use Rattle.history_core.specs.Legal.{MayFollow}
use Rattle.history_core.proofs.LegalLemmas.{IsLegal-push}
use Rattle.history_automation.specs.Known.{Known, IsKnown}
use Rattle.history_automation.specs.Examined.{Found, IsExamined}
use Rattle.history_automation.proofs.KnownPaths.{known_same}
use Rattle.history_walk.specs.Scene.{IsFound}
use Rattle.sending_state.specs.State.{IsOwed}
use Rattle.sending_state.specs.Kept.{Keeps}

promotes_none : (x : Event) → IsOwed x → promotion_in x ≡ None
promotes_none (Recovered m failures due) owed = absurd owed
promotes_none (Accepted m) owed = absurd owed
promotes_none (known_again id) owed = absurd owed
promotes_none (Promoted id source) owed = absurd owed
promotes_none (Opened conn path key) owed = absurd owed
promotes_none (Begun conn id key) owed = absurd owed
promotes_none (Ended conn id outcome next) owed = refl
promotes_none (Closed conn cause) owed = refl
promotes_none (Delayed id next) owed = absurd owed
promotes_none (Ordered number order) owed = absurd owed
promotes_none (Resumed number) owed = absurd owed
promotes_none (Resolved id how) owed = absurd owed
promotes_none (Rested until) owed = refl
promotes_none Stopped owed = refl

module _ (policy : Policy) (h : List Entry) where
  -- an entry that is owed promotes nothing
  pub known_still : (e : Entry) (known : Known) → IsKnown policy h known → IsOwed e.what → IsKnown policy (h ++ e ∷ []) known
  known_still e known is owed =
      known_same policy h e known is
      (sym (ap (λ (o : Option Promotion). option_to_list (option_and_then (λ p. option_map (λ m. record { place = length h; id = p.id; path = path_for policy m p.source }) (message_with h p.id)) o))
      (promotes_none e.what owed)))

  -- an entry that may follow
  pub grown : (n : ℕ) (was now : Known) (found : Found) (e : Entry) → Keeps policy h n was found → MayFollow policy h e
      → IsKnown policy (h ++ e ∷ []) now → Keeps policy (h ++ e ∷ []) n now found
  grown n was now found e kept follows known = record {
    legal = IsLegal-push policy h e kept.legal follows;
    known_is = known;
    found_is = subst (λ g. IsExamined policy g found) (sym (take-append-le n h (e ∷ []) kept.within)) kept.found_is;
    within = let longer : length (h ++ e ∷ []) ≡ length h + 1 = length_push h e in omega (arith, longer, kept.within);
  }

  -- one more entry is examined
  pub further : (n : ℕ) (known : Known) (was now : Found) → Keeps policy h n known was → n < length h
      → IsExamined policy (take (n + 1) h) now → Keeps policy h (n + 1) known now
  further n known was now kept within found = record {
    legal = kept.legal;
    known_is = kept.known_is;
    found_is = found;
    within = omega (arith, within);
  }

  -- where all are examined, what was found is that of the history
  pub found_all : (n : ℕ) (known : Known) (found : Found) → Keeps policy h n known found → n ≡ length h
      → IsFound policy h known found.firings
  found_all n known found kept all = record {
    known_is = kept.known_is;
    firings_are = kept.found_is.firings ∙ ap (firings policy) (take_all n h (omega (arith, all)));
  }

-- before the first entry
pub started_keeps : (policy : Policy) (h : List Entry) (known : Known) (found : Found) → h ≡ [] → IsKnown policy [] known → IsExamined policy [] found
    → Keeps policy h 0 known found
started_keeps policy [] known found none is_known is_examined =
    record { legal = tt; known_is = is_known; found_is = is_examined; within = omega arith }
started_keeps policy (e ∷ h) known found none is_known is_examined = absurd cc
