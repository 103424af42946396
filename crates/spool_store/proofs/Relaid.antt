-- The records that are written anew leave the same messages pending, at their new offsets.
use Rattle.std.proofs.Common.{◌≡◌, ◌≢◌, inl, inr, ℕ, ◌+◌, List, [], ◌∷◌, ◌++◌, length, map, take, drop, Option, Some, None, Bool, true, false, ◌||◌, cond, eqb, refl, sym, ◌∙◌, subst, ap, arith}
use Rattle.std.proofs.lemmas.Bool.{or_parts, eq-eqb, cases_eq}
use Rattle.std.proofs.lemmas.Bool.Decides.{nat_tests}
use Rattle.std.proofs.lemmas.List.{append_assoc, append-nil, length-drop, length-take-le}
use Rattle.queue_name.specs.declared.message.Message.{Message}
use Rattle.spool_log.specs.Area.{LogRecord, bytes_of}
use Rattle.spool_format.specs.Held.{held_payload}
use Rattle.spool_format.specs.Deferred.{deferred_payload}
use Rattle.spool_format.specs.declared.deferred.Deferral.{Deferral}
use Rattle.spool_format.specs.declared.kept.Kept.{Kept}
use Rattle.spool_format.proofs.SmallLemmas.{deferred_again, deferred_length}
use Rattle.spool_index.specs.declared.place.Place.{Place}
use Rattle.spool_index.specs.Places.{are_distinct, compacted_cost, after_place, laid_out}
use Rattle.spool_index.proofs.PlaceLemmas.{distinct_parts, distinct_instead}
use Rattle.spool_store.specs.Content.{Item, fresh, kept_of, place_of, places_of, with_deferral, deferred, has_item, hold_in, defer_in, after, and_then, played}
use Rattle.spool_store.specs.Store.{unplaced}
use Rattle.spool_store.specs.inside.Rewriting.{deferral_of, copy_of, copies_of, AreWithin}
use Rattle.spool_store.proofs.Lists.{places-append}
use Rattle.spool_store.proofs.Pieces.{deferral, IsHeldAt, AreHeld, AreGood}

-- the same messages, whose records stand one after the other from an offset on
abbrev pub relaid : ℕ → List Item → List Item
relaid at [] = []
relaid at (i ∷ items) = (record { at = at + 6; kept = i.kept }) ∷ relaid (after_place at (place_of i)) items

pub kept_relaid : (at : ℕ) (items : List Item) → kept_of (relaid at items) ≡ kept_of items
kept_relaid at [] = refl
kept_relaid at (i ∷ items) = ap (λ (l : List Kept). i.kept ∷ l) (kept_relaid (after_place at (place_of i)) items)

pub places_relaid : (at : ℕ) (items : List Item) → places_of (relaid at items) ≡ laid_out at (places_of items)
places_relaid at [] = refl
places_relaid at (i ∷ items) = ap (λ (l : List Place). (record (place_of i) { at = at + 6 }) ∷ l) (places_relaid (after_place at (place_of i)) items)

pub unplaced_laid : (at : ℕ) (ps : List Place) → map unplaced (laid_out at ps) ≡ map unplaced ps
unplaced_laid at [] = refl
unplaced_laid at (p ∷ ps) = ap (λ (l : List Place). unplaced p ∷ l) (unplaced_laid (after_place at p) ps)

pub are_within : (bytes : List ℕ) (items : List Item) → AreHeld bytes items → AreWithin bytes (places_of items)
are_within bytes [] held = tt
are_within bytes (i ∷ items) held = (held.0.within, are_within bytes items held.1)

-- a message that is held last, and then deferred
has_last : (id : ℕ) (items : List Item) (i : Item) → i.kept.message.id ≡ id → has_item id (items ++ i ∷ []) ≡ true
has_last id [] i is = ap (λ (t : Bool). t || false) (eq-eqb i.kept.message.id id is)
has_last id (j ∷ items) i is = by (eqb j.kept.message.id id) (has_last id items i is)
  where
    by : (t : Bool) → has_item id (items ++ i ∷ []) ≡ true → (t || has_item id (items ++ i ∷ [])) ≡ true
    by true last = refl
    by false last = last

later_last : (d : Deferral) (items : List Item) (i : Item) → has_item d.id items ≡ false → i.kept.message.id ≡ d.id → with_deferral d (items ++ i ∷ []) ≡ items ++ deferred d i ∷ []
later_last d [] i none is = ap (λ (t : Bool). cond t (deferred d i ∷ []) (i ∷ [])) (eq-eqb i.kept.message.id d.id is)
later_last d (j ∷ items) i none is =
    let parts = or_parts (eqb j.kept.message.id d.id) (has_item d.id items) none in
    ap (λ (t : Bool). cond t (deferred d j ∷ items ++ i ∷ []) (j ∷ with_deferral d (items ++ i ∷ []))) parts.0 ∙ ap (λ (l : List Item). j ∷ l) (later_last d items i parts.1 is)

defers_last : (d : Deferral) (items : List Item) (i : Item) → has_item d.id items ≡ false → i.kept.message.id ≡ d.id → defer_in (items ++ i ∷ []) (Some d) ≡ Some (items ++ deferred d i ∷ [])
defers_last d items i none is =
    ap (λ (t : Bool). cond t (Some (with_deferral d (items ++ i ∷ []))) None) (has_last d.id items i is) ∙ ap (λ (l : List Item). Some l) (later_last d items i none is)

holds_next : (at : ℕ) (items : List Item) (m : Message) → has_item m.id items ≡ false → hold_in at items (Some m) ≡ Some (items ++ (record { at = at; kept = fresh m }) ∷ [])
holds_next at items m none = ap (λ (t : Bool). cond t None (Some (items ++ (record { at = at; kept = fresh m }) ∷ []))) none

abbrev of : ℕ → List ℕ → LogRecord
of kind payload = record { kind = kind; payload = payload }

-- one message: its record, and that of its deferral
module _ (bytes : List ℕ) (at : ℕ) (done : List Item) (i : Item) (is : IsHeldAt bytes i) (new : has_item i.kept.message.id done ≡ false) where
  m : Message
  m = i.kept.message

  piece : List ℕ
  piece = take (length (held_payload i.kept.message)) (drop i.at bytes)

  long : length piece ≡ length (held_payload i.kept.message)
  unfolding piece
  long = length-take-le (length (held_payload i.kept.message)) (drop i.at bytes) (omega (arith, is.within, length-drop i.at bytes))

  abbrev made : Item
  made = record { at = at + 6; kept = fresh i.kept.message }

  abbrev now : Item
  now = record { at = at + 6; kept = i.kept }

  held_step : after 2 at done (of 1 piece) ≡ Some (done ++ made ∷ [])
  unfolding piece
  held_step = ap (λ (o : Option Message). hold_in (at + 6) done o) is.held ∙ holds_next (at + 6) done i.kept.message new

  -- one that has not failed
  first_same : i.kept.failures ≡ 0 → made ≡ now
  first_same none = by i.kept.failures i.kept.due none (is.as_made none)
    where
      by : (f d : ℕ) → f ≡ 0 → d ≡ i.kept.message.created → made ≡ record { at = at + 6; kept = record { message = i.kept.message; failures = f; due = d } }
      by f d one two = cc

  deferred_step : (to : ℕ) → i.kept.failures ≢ 0 → after 2 to (done ++ made ∷ []) (of 3 (deferred_payload (deferral i))) ≡ Some (done ++ now ∷ [])
  deferred_step to some = ap (λ (o : Option Deferral). defer_in (done ++ made ∷ []) o) (deferred_again (deferral i) (is.proper some)) ∙ defers_last (deferral i) done made new refl

  cost : List LogRecord → ℕ → Type 0
  cost rs n = (rest : List LogRecord) → played 2 (at + (6 + length (held_payload i.kept.message))) (done ++ made ∷ []) (rs ++ rest) ≡ played 2 (at + n) (done ++ now ∷ []) rest

  none_deferred : i.kept.failures ≡ 0 → cost [] (6 + length (held_payload i.kept.message) + 0)
  unfolding cost
  none_deferred none rest = ap (λ (j : Item). played 2 (at + (6 + length (held_payload i.kept.message))) (done ++ j ∷ []) rest) (first_same none)
      ∙ ap (λ (k : ℕ). played 2 k (done ++ now ∷ []) rest) (let same : at + (6 + length (held_payload i.kept.message)) ≡ at + (6 + length (held_payload i.kept.message) + 0) = omega arith in same)

  one_deferred : i.kept.failures ≢ 0 → cost (of 3 (deferred_payload (deferral i)) ∷ []) (6 + length (held_payload i.kept.message) + 34)
  unfolding cost
  one_deferred some rest =
      let to : ℕ = at + (6 + length (held_payload i.kept.message)) in
      let next : to + length (bytes_of (of 3 (deferred_payload (deferral i)))) ≡ at + (6 + length (held_payload i.kept.message) + 34) = omega (arith, deferred_length (deferral i)) in
      ap (λ (o : Option (List Item)). and_then o (λ l. played 2 (to + length (bytes_of (of 3 (deferred_payload (deferral i))))) l rest)) (deferred_step to some)
      ∙ ap (λ (k : ℕ). played 2 k (done ++ now ∷ []) rest) next

  deferral_step : cost (deferral_of (place_of i)) (compacted_cost (place_of i))
  deferral_step = elim (cases_eq i.kept.failures 0) as (λ _. cost (deferral_of (place_of i)) (compacted_cost (place_of i))) [
    | inl none ↦ by true (eq-eqb i.kept.failures 0 none) (none_deferred none)
    | inr some ↦ by false (differs i.kept.failures some) (one_deferred some)
  ]
    where
      differs : (n : ℕ) → n ≢ 0 → eqb n 0 ≡ false
      differs n some = grind (arith, nat_tests)

      by : (t : Bool) → eqb i.kept.failures 0 ≡ t → cost (cond t [] (of 3 (deferred_payload (deferral i)) ∷ [])) (6 + length (held_payload i.kept.message) + cond t 0 34) → cost (deferral_of (place_of i)) (compacted_cost (place_of i))
      by t test known = subst (λ (b : Bool). cost (cond b [] (of 3 (deferred_payload (deferral i)) ∷ [])) (6 + length (held_payload i.kept.message) + cond b 0 34)) (sym test) known

  pub copy_played : (rest : List LogRecord) → played 2 at done (copy_of bytes (place_of i) ++ rest) ≡ played 2 (at + compacted_cost (place_of i)) (done ++ now ∷ []) rest
  unfolding piece cost
  copy_played rest =
      let to : at + length (bytes_of (of 1 piece)) ≡ at + (6 + length (held_payload i.kept.message)) = omega (arith, long) in
      ap (λ (o : Option (List Item)). and_then o (λ l. played 2 (at + length (bytes_of (of 1 piece))) l (deferral_of (place_of i) ++ rest))) held_step
      ∙ ap (λ (k : ℕ). played 2 k (done ++ made ∷ []) (deferral_of (place_of i) ++ rest)) to ∙ deferral_step rest

-- all messages
pub copies_played : (bytes : List ℕ) (at : ℕ) (done items : List Item) → AreHeld bytes items → are_distinct (places_of done ++ places_of items) ≡ true
    → played 2 at done (copies_of bytes (places_of items)) ≡ Some (done ++ relaid at items)
copies_played bytes at done [] held distinct = ap (λ (l : List Item). Some l) (sym (append-nil done))
copies_played bytes at done (i ∷ items) held distinct =
    let now : Item = record { at = at + 6; kept = i.kept } in
    let parts = distinct_parts (places_of done) (place_of i) (places_of items) distinct in
    let still : are_distinct (places_of (done ++ now ∷ []) ++ places_of items) ≡ true =
    ap (λ (l : List Place). are_distinct (l ++ places_of items)) (places-append done (now ∷ []))
    ∙ ap are_distinct (append_assoc (places_of done) (place_of now ∷ []) (places_of items))
    ∙ distinct_instead (places_of done) (place_of i) (place_of now) (places_of items) refl ∙ distinct in
    copy_played bytes at done i held.0 parts.0 (copies_of bytes (places_of items))
    ∙ copies_played bytes (at + compacted_cost (place_of i)) (done ++ now ∷ []) items held.1 still
    ∙ ap (λ (l : List Item). Some l) (append_assoc done (now ∷ []) (relaid (after_place at (place_of i)) items))

pub all_played : (bytes : List ℕ) (items : List Item) → AreGood bytes items → played 2 16 [] (copies_of bytes (places_of items)) ≡ Some (relaid 16 items)
all_played bytes items good = copies_played bytes 16 [] items good.held good.distinct
