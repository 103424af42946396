-- The lists of a spool: items, their messages, and their places.
use Rattle.std.proofs.Common.{◌≡◌, ℕ, ◌+◌, ◌<◌, ◌^◌, List, [], ◌∷◌, ◌++◌, length, Bool, true, false, ◌==◌, Option, Some, None, refl, ◌∙◌, ap, arith, cond}
use Rattle.std.specs.Prelude.{unwrap_or}
use Rattle.std.proofs.lemmas.List.{length-append}
use Rattle.queue_name.specs.Message.{IsProperMessage}
use Rattle.queue_name.specs.declared.message.Message.{Message}
use Rattle.spool_format.specs.Fields.{text_field}
use Rattle.spool_format.specs.Held.{held_payload, held_in}
use Rattle.spool_format.specs.Settled.{settled_in}
use Rattle.spool_format.specs.Deferred.{deferred_in}
use Rattle.spool_format.specs.declared.deferred.Deferral.{Deferral}
use Rattle.spool_format.specs.declared.kept.Kept.{Kept}
use Rattle.spool_format.proofs.LengthLemmas.{short}
use Rattle.spool_index.specs.declared.place.Place.{Place}
use Rattle.spool_index.specs.Places.{has, without, with_delay, delayed}
use Rattle.spool_store.specs.Content.{Item, fresh, kept_of, place_of, places_of, without_item, deferred, with_deferral, hold_in, settle_in, defer_in, after, without_kept, with_deferral_kept, deferred_kept}

pub places-without : (id : ℕ) (items : List Item) → places_of (without_item id items) ≡ without id (places_of items)
places-without id [] = refl
places-without id (i ∷ items) = by (i.kept.message.id == id) (places-without id items)
  where
    by : (t : Bool) → places_of (without_item id items) ≡ without id (places_of items) → places_of (cond t items (i ∷ without_item id items)) ≡ cond t (places_of items) (place_of i ∷ without id (places_of items))
    by true same = refl
    by false same = ap (λ (l : List Place). place_of i ∷ l) same

pub places-deferral : (d : Deferral) (items : List Item) → places_of (with_deferral d items) ≡ with_delay d.id d.failures d.due (places_of items)
places-deferral d [] = refl
places-deferral d (i ∷ items) = by (i.kept.message.id == d.id) (places-deferral d items)
  where
    by : (t : Bool) → places_of (with_deferral d items) ≡ with_delay d.id d.failures d.due (places_of items)
        → places_of (cond t (deferred d i ∷ items) (i ∷ with_deferral d items)) ≡ cond t (delayed d.failures d.due (place_of i) ∷ places_of items) (place_of i ∷ with_delay d.id d.failures d.due (places_of items))
    by true same = refl
    by false same = ap (λ (l : List Place). place_of i ∷ l) same

pub kept-without : (id : ℕ) (items : List Item) → kept_of (without_item id items) ≡ without_kept id (kept_of items)
kept-without id [] = refl
kept-without id (i ∷ items) = by (i.kept.message.id == id) (kept-without id items)
  where
    by : (t : Bool) → kept_of (without_item id items) ≡ without_kept id (kept_of items) → kept_of (cond t items (i ∷ without_item id items)) ≡ cond t (kept_of items) (i.kept ∷ without_kept id (kept_of items))
    by true same = refl
    by false same = ap (λ (l : List Kept). i.kept ∷ l) same

pub kept-deferral : (d : Deferral) (items : List Item) → kept_of (with_deferral d items) ≡ with_deferral_kept d (kept_of items)
kept-deferral d [] = refl
kept-deferral d (i ∷ items) = by (i.kept.message.id == d.id) (kept-deferral d items)
  where
    by : (t : Bool) → kept_of (with_deferral d items) ≡ with_deferral_kept d (kept_of items)
        → kept_of (cond t (deferred d i ∷ items) (i ∷ with_deferral d items)) ≡ cond t (deferred_kept d i.kept ∷ kept_of items) (i.kept ∷ with_deferral_kept d (kept_of items))
    by true same = refl
    by false same = ap (λ (l : List Kept). i.kept ∷ l) same

pub kept-append : (items more : List Item) → kept_of (items ++ more) ≡ kept_of items ++ kept_of more
kept-append [] more = refl
kept-append (i ∷ items) more = ap (λ (l : List Kept). i.kept ∷ l) (kept-append items more)

pub places-append : (items more : List Item) → places_of (items ++ more) ≡ places_of items ++ places_of more
places-append [] more = refl
places-append (i ∷ items) more = ap (λ (l : List Place). place_of i ∷ l) (places-append items more)

-- a held, a settled and a deferred record are good ones where the message is not, or is, pending
pub after_held : (version at : ℕ) (items : List Item) (m : Message) (payload : List ℕ) → held_in payload ≡ Some m → has m.id (places_of items) ≡ false
    → after version at items (record { kind = 1; payload = payload }) ≡ Some (items ++ (record { at = at + 6; kept = fresh m }) ∷ [])
after_held version at items m payload held unknown = ap (λ (o : Option Message). hold_in (at + 6) items o) held
    ∙ ap (λ (t : Bool). cond t None (Some (items ++ (record { at = at + 6; kept = fresh m }) ∷ []))) unknown

pub after_settled : (version at : ℕ) (items : List Item) (id : ℕ) (payload : List ℕ) → settled_in payload ≡ Some id → has id (places_of items) ≡ true
    → after version at items (record { kind = 2; payload = payload }) ≡ Some (without_item id items)
after_settled version at items id payload settled known = ap (λ (o : Option ℕ). settle_in items o) settled ∙ ap (λ (t : Bool). cond t (Some (without_item id items)) None) known

pub after_deferred : (version at : ℕ) (items : List Item) (d : Deferral) (payload : List ℕ) → version ≡ 2 → deferred_in payload ≡ Some d → has d.id (places_of items) ≡ true
    → after version at items (record { kind = 3; payload = payload }) ≡ Some (with_deferral d items)
after_deferred version at items d payload two says known = ap (λ (v : ℕ). after v at items (record { kind = 3; payload = payload })) two
    ∙ ap (λ (o : Option Deferral). defer_in items o) says ∙ ap (λ (t : Bool). cond t (Some (with_deferral d items)) None) known

-- a proper message is short
pub held_small : (m : Message) → IsProperMessage m → length (held_payload m) < 2 ^ 32
unfolding held_payload text_field
held_small m proper =
    let s = short m proper in
    let campaign : List ℕ = unwrap_or m.name.campaign [] in
    let tenant : List ℕ = unwrap_or m.name.tenant [] in
    omega (
      arith,
      s.sender,
      s.recipient,
      s.campaign,
      s.tenant,
      s.body,
      length-append m.sender (text_field m.recipient ++ (text_field campaign ++ (text_field tenant ++ text_field m.body))),
      length-append m.recipient (text_field campaign ++ (text_field tenant ++ text_field m.body)),
      length-append campaign (text_field tenant ++ text_field m.body),
      length-append tenant (text_field m.body),
    )
