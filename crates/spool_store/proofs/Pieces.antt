-- What a list of good records says of each message that is pending: where its payload stands, and what was deferred.
use Rattle.std.proofs.Common.{◌≡◌, ◌≢◌, ◌⊎◌, inl, inr, ℕ, ◌+◌, ◌≤◌, List, [], ◌∷◌, ◌++◌, length, take, drop, Option, Some, None, Bool, true, false, not, ◌&&◌, ◌||◌, cond, eqb, refl, sym, ◌∙◌, subst, ap, arith}
use Rattle.std.specs.Bool.{⊤}
use Rattle.std.proofs.lemmas.Bool.{or_parts, or_from, and_parts, and_from, not-true, not_from_false, eqb-true}
use Rattle.std.proofs.lemmas.List.{append_assoc, drop-drop, drop_at, take_at, length-append, length-drop}
use Rattle.queue_name.specs.declared.message.Message.{Message}
use Rattle.spool_log.specs.Area.{LogRecord, bytes_of, bytes_of_all, header_of, Form}
use Rattle.spool_log.specs.declared.head.Header.{Header}
use Rattle.spool_format.specs.Held.{held_payload, held_in}
use Rattle.spool_format.specs.Settled.{settled_in}
use Rattle.spool_format.specs.Deferred.{IsProperDeferral, deferred_in}
use Rattle.spool_format.specs.declared.deferred.Deferral.{Deferral}
use Rattle.spool_format.proofs.ReadLemmas.{held_long, deferred_proper}
use Rattle.spool_index.specs.Places.{has, are_distinct}
use Rattle.spool_index.proofs.PlaceLemmas.{distinct_push}
use Rattle.spool_store.specs.Content.{Item, fresh, place_of, places_of, without_item, with_deferral, deferred, has_item, hold_in, settle_in, defer_in, after, played}
use Rattle.spool_store.proofs.Unique.{then_some}
use Rattle.spool_store.proofs.Lists.{places-append}

-- the deferral that a pending message has
abbrev pub deferral : Item → Deferral
deferral i = record { id = i.kept.message.id; failures = i.kept.failures; due = i.kept.due }

-- The payload of a pending message stands at its offset among these bytes. It is due when it was made, or was deferred.
pub record IsHeldAt (bytes : List ℕ) (i : Item) : Type 0 where
  pub within : i.at + length (held_payload i.kept.message) ≤ length bytes
  pub held : held_in (take (length (held_payload i.kept.message)) (drop i.at bytes)) ≡ Some i.kept.message
  pub as_made : i.kept.failures ≡ 0 → i.kept.due ≡ i.kept.message.created
  pub proper : i.kept.failures ≢ 0 → IsProperDeferral (deferral i)

abbrev pub AreHeld : List ℕ → List Item → Type 0
AreHeld bytes [] = ⊤
AreHeld bytes (i ∷ items) = IsHeldAt bytes i × AreHeld bytes items

-- so is each of them, and no id stands twice
pub record AreGood (bytes : List ℕ) (items : List Item) : Type 0 where
  pub held : AreHeld bytes items
  pub distinct : are_distinct (places_of items) ≡ true

-- one more
held_push : (bytes : List ℕ) (items : List Item) (i : Item) → AreHeld bytes items → IsHeldAt bytes i → AreHeld bytes (items ++ i ∷ [])
held_push bytes [] i held is = (is, tt)
held_push bytes (j ∷ items) i held is = (held.0, held_push bytes items i held.1 is)

good_push : (bytes : List ℕ) (items : List Item) (i : Item) → AreGood bytes items → IsHeldAt bytes i → has_item i.kept.message.id items ≡ false → AreGood bytes (items ++ i ∷ [])
good_push bytes items i good is new = record {
  held = held_push bytes items i good.held is;
  distinct = ap are_distinct (places-append items (i ∷ [])) ∙ distinct_push (places_of items) (place_of i) good.distinct new;
}

-- one less
held_less : (bytes : List ℕ) (id : ℕ) (items : List Item) → AreHeld bytes items → AreHeld bytes (without_item id items)
held_less bytes id [] held = tt
held_less bytes id (i ∷ items) held = by (eqb i.kept.message.id id) (held_less bytes id items held.1)
  where
    by : (t : Bool) → AreHeld bytes (without_item id items) → AreHeld bytes (cond t items (i ∷ without_item id items))
    by true less = held.1
    by false less = (held.0, less)

has_less : (x id : ℕ) (items : List Item) → has x (places_of items) ≡ false → has x (places_of (without_item id items)) ≡ false
has_less x id [] none = none
has_less x id (i ∷ items) none = by (eqb i.kept.message.id id) (or_parts (eqb i.kept.message.id x) (has x (places_of items)) none) (has_less x id items)
  where
    by : (t : Bool) → (eqb i.kept.message.id x ≡ false) × (has x (places_of items) ≡ false) → (has x (places_of items) ≡ false → has x (places_of (without_item id items)) ≡ false)
        → has x (places_of (cond t items (i ∷ without_item id items))) ≡ false
    by true parts less = parts.1
    by false parts less = or_from (eqb i.kept.message.id x) (has x (places_of (without_item id items))) parts.0 (less parts.1)

distinct_less : (id : ℕ) (items : List Item) → are_distinct (places_of items) ≡ true → are_distinct (places_of (without_item id items)) ≡ true
distinct_less id [] distinct = distinct
distinct_less id (i ∷ items) distinct = by (eqb i.kept.message.id id) (and_parts (not (has i.kept.message.id (places_of items))) (are_distinct (places_of items)) distinct) (distinct_less id items)
  where
    by : (t : Bool) → (not (has i.kept.message.id (places_of items)) ≡ true) × (are_distinct (places_of items) ≡ true)
        → (are_distinct (places_of items) ≡ true → are_distinct (places_of (without_item id items)) ≡ true) → are_distinct (places_of (cond t items (i ∷ without_item id items))) ≡ true
    by true parts less = parts.1
    by false parts less = and_from (not (has i.kept.message.id (places_of (without_item id items)))) (are_distinct (places_of (without_item id items)))
        (not_from_false (has i.kept.message.id (places_of (without_item id items))) (has_less i.kept.message.id id items (not-true (has i.kept.message.id (places_of items)) parts.0)))
        (less parts.1)

-- one deferred
deferred_held : (bytes : List ℕ) (d : Deferral) (i : Item) → IsProperDeferral d → i.kept.message.id ≡ d.id → IsHeldAt bytes i → IsHeldAt bytes (deferred d i)
deferred_held bytes d i proper same is = record {
  within = is.within;
  held = is.held;
  as_made = λ none. absurd (omega (arith, none, proper.failed));
  proper = λ some. subst (λ (k : ℕ). IsProperDeferral (record { id = k; failures = d.failures; due = d.due })) (sym same) proper;
}

held_later : (bytes : List ℕ) (d : Deferral) (items : List Item) → IsProperDeferral d → AreHeld bytes items → AreHeld bytes (with_deferral d items)
held_later bytes d [] proper held = tt
held_later bytes d (i ∷ items) proper held = by (eqb i.kept.message.id d.id) (λ is. eqb-true i.kept.message.id d.id is) (held_later bytes d items proper held.1)
  where
    by : (t : Bool) → (t ≡ true → i.kept.message.id ≡ d.id) → AreHeld bytes (with_deferral d items) → AreHeld bytes (cond t (deferred d i ∷ items) (i ∷ with_deferral d items))
    by true same later = (deferred_held bytes d i proper (same refl) held.0, held.1)
    by false same later = (held.0, later)

has_later : (x : ℕ) (d : Deferral) (items : List Item) → has x (places_of (with_deferral d items)) ≡ has x (places_of items)
has_later x d [] = refl
has_later x d (i ∷ items) = by (eqb i.kept.message.id d.id) (has_later x d items)
  where
    by : (t : Bool) → has x (places_of (with_deferral d items)) ≡ has x (places_of items) → has x (places_of (cond t (deferred d i ∷ items) (i ∷ with_deferral d items))) ≡ has x (places_of (i ∷ items))
    by true later = refl
    by false later = ap (λ (b : Bool). eqb i.kept.message.id x || b) later

distinct_later : (d : Deferral) (items : List Item) → are_distinct (places_of (with_deferral d items)) ≡ are_distinct (places_of items)
distinct_later d [] = refl
distinct_later d (i ∷ items) = by (eqb i.kept.message.id d.id) (distinct_later d items)
  where
    by : (t : Bool) → are_distinct (places_of (with_deferral d items)) ≡ are_distinct (places_of items) → are_distinct (places_of (cond t (deferred d i ∷ items) (i ∷ with_deferral d items))) ≡ are_distinct (places_of (i ∷ items))
    by true later = refl
    by false later = ap (λ (b : Bool). not b && are_distinct (places_of (with_deferral d items))) (has_later i.kept.message.id d items)
        ∙ ap (λ (b : Bool). not (has i.kept.message.id (places_of items)) && b) later

-- what made a record a good one
either : (t : Bool) (x y : Option (List Item)) (later : List Item) → cond t x y ≡ Some later → (x ≡ Some later) ⊎ (y ≡ Some later)
either true x y later is = inl is
either false x y later is = inr is

held_new : (at : ℕ) (items later : List Item) (o : Option Message) → hold_in at items o ≡ Some later
    → (m : Message) × (o ≡ Some m) × (has_item m.id items ≡ false) × (later ≡ items ++ (record { at = at; kept = fresh m }) ∷ [])
held_new at items later None is = let no_some : None ≡ Some later = is in absurd cc
held_new at items later (Some m) is = by (has_item m.id items) refl is
  where
    by : (t : Bool) → has_item m.id items ≡ t → cond t None (Some (items ++ (record { at = at; kept = fresh m }) ∷ [])) ≡ Some later
        → (n : Message) × (Some m ≡ Some n) × (has_item n.id items ≡ false) × (later ≡ items ++ (record { at = at; kept = fresh n }) ∷ [])
    by true test is = let no_some : None ≡ Some later = is in absurd cc
    by false test is = (m, refl, test, same (items ++ (record { at = at; kept = fresh m }) ∷ []) later is)
      where
        same : (x y : List Item) → Some x ≡ Some y → y ≡ x
        same x y is = cc

settled_one : (items later : List Item) (o : Option ℕ) → settle_in items o ≡ Some later → (id : ℕ) × (later ≡ without_item id items)
settled_one items later None is = let no_some : None ≡ Some later = is in absurd cc
settled_one items later (Some id) is = by (has_item id items) is
  where
    by : (t : Bool) → cond t (Some (without_item id items)) None ≡ Some later → (n : ℕ) × (later ≡ without_item n items)
    by true is = (id, same (without_item id items) later is)
      where
        same : (x y : List Item) → Some x ≡ Some y → y ≡ x
        same x y is = cc
    by false is = let no_some : None ≡ Some later = is in absurd cc

deferred_one : (items later : List Item) (o : Option Deferral) → defer_in items o ≡ Some later → (d : Deferral) × (o ≡ Some d) × (later ≡ with_deferral d items)
deferred_one items later None is = let no_some : None ≡ Some later = is in absurd cc
deferred_one items later (Some d) is = by (has_item d.id items) is
  where
    by : (t : Bool) → cond t (Some (with_deferral d items)) None ≡ Some later → (e : Deferral) × (Some d ≡ Some e) × (later ≡ with_deferral e items)
    by true is = (d, refl, same (with_deferral d items) later is)
      where
        same : (x y : List Item) → Some x ≡ Some y → y ≡ x
        same x y is = cc
    by false is = let no_some : None ≡ Some later = is in absurd cc

-- a message that is held now stands there
new_held : (at : ℕ) (r : LogRecord) (m : Message) (bytes x : List ℕ) → drop at bytes ≡ bytes_of r ++ x → held_in r.payload ≡ Some m → IsHeldAt bytes (record { at = at + 6; kept = fresh m })
new_held at r m bytes x here held =
    let long : length r.payload ≡ length (held_payload m) = held_long r.payload m held in
    let behind : drop (at + 6) bytes ≡ r.payload ++ x = sym (drop-drop 6 at bytes) ∙ ap (λ (l : List ℕ). drop 6 l) here in
    let piece : take (length (held_payload m)) (drop (at + 6) bytes) ≡ r.payload = ap (λ (l : List ℕ). take (length (held_payload m)) l) behind ∙ take_at r.payload x (length (held_payload m)) long in
    record {
      within = omega (arith, long, ap length here, length-drop at bytes, length-append (bytes_of r) x);
      held = ap held_in piece ∙ held;
      as_made = λ none. refl;
      proper = λ some. absurd (some refl);
    }

good_after : (v at : ℕ) (items later : List Item) (r : LogRecord) (bytes x : List ℕ) → drop at bytes ≡ bytes_of r ++ x → AreGood bytes items → after v at items r ≡ Some later → AreGood bytes later
good_after v at items later r bytes x here good is =
    elim (either (eqb r.kind 1) _ _ later is) as (λ _. AreGood bytes later) [
      | inl one ↦ held one
      | inr more ↦ elim (either (eqb r.kind 2) _ _ later more) as (λ _. AreGood bytes later) [
        | inl two ↦ settled two
        | inr last ↦ elim (either (eqb r.kind 3 && eqb v 2) _ _ later last) as (λ _. AreGood bytes later) [
          | inl three ↦ put_off three
          | inr none ↦ no_good none
        ]
      ]
    ]
  where
    held : hold_in (at + 6) items (held_in r.payload) ≡ Some later → AreGood bytes later
    held is =
        let one = held_new (at + 6) items later (held_in r.payload) is in
        subst (λ (l : List Item). AreGood bytes l) (sym one.3) (good_push bytes items (record { at = at + 6; kept = fresh one.0 }) good (new_held at r one.0 bytes x here one.1) one.2)

    settled : settle_in items (settled_in r.payload) ≡ Some later → AreGood bytes later
    settled is =
        let one = settled_one items later (settled_in r.payload) is in
        subst (λ (l : List Item). AreGood bytes l) (sym one.1) (record { held = held_less bytes one.0 items good.held; distinct = distinct_less one.0 items good.distinct })

    put_off : defer_in items (deferred_in r.payload) ≡ Some later → AreGood bytes later
    put_off is =
        let one = deferred_one items later (deferred_in r.payload) is in
        subst (λ (l : List Item). AreGood bytes l) (sym one.2)
        (record { held = held_later bytes one.0 items (deferred_proper r.payload one.0 one.1) good.held; distinct = distinct_later one.0 items ∙ good.distinct })

    no_good : None ≡ Some later → AreGood bytes later
    no_good is = absurd (let no_some : None ≡ Some later = is in cc)

pub good_played : (v at : ℕ) (items later : List Item) (rs : List LogRecord) (bytes x : List ℕ) → drop at bytes ≡ bytes_of_all rs ++ x → AreGood bytes items → played v at items rs ≡ Some later → AreGood bytes later
good_played v at items later [] bytes x here good is = subst (λ (l : List Item). AreGood bytes l) (same items later is) good
  where
    same : (x y : List Item) → Some x ≡ Some y → x ≡ y
    same x y is = cc
good_played v at items later (r ∷ rs) bytes x here good is =
    let whole : drop at bytes ≡ bytes_of r ++ (bytes_of_all rs ++ x) = here ∙ append_assoc (bytes_of r) (bytes_of_all rs) x in
    let one = then_some (after v at items r) (λ l. played v (at + length (bytes_of r)) l rs) later is in
    good_played v (at + length (bytes_of r)) one.0 later rs bytes x
    (sym (drop-drop (length (bytes_of r)) at bytes) ∙ ap (λ (l : List ℕ). drop (length (bytes_of r)) l) whole ∙ drop_at (bytes_of r) (bytes_of_all rs ++ x) (length (bytes_of r)) refl)
    (good_after v at items one.0 r bytes (bytes_of_all rs ++ x) whole good one.1) one.2

-- the messages that an area has pending are good ones
pub good_form : (h : Header) (rs : List LogRecord) (end : ℕ) (bytes : List ℕ) (items : List Item) → Form h rs end bytes → played h.version 16 [] rs ≡ Some items → AreGood bytes items
good_form h rs end bytes items form plays = good_played h.version 16 [] items rs bytes (form.gate ∷ form.rest)
    (ap (λ (l : List ℕ). drop 16 l) (form.split ∙ append_assoc (header_of h) (bytes_of_all rs) (form.gate ∷ form.rest)) ∙ drop_at (header_of h) (bytes_of_all rs ++ form.gate ∷ form.rest) 16 (omega arith))
    (record { held = tt; distinct = refl }) plays
