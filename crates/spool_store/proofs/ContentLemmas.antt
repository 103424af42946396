-- What a record leaves of the places, where it leaves something of the messages that stand there.
use Rattle.std.proofs.Common.{◌≡◌, ℕ, List, [], ◌∷◌, ◌++◌, length, Bool, true, false, cond, Option, Some, None, sym, ◌∙◌, ap}
use Rattle.queue_name.specs.declared.message.Message.{Message}
use Rattle.spool_format.specs.Held.{held_in}
use Rattle.spool_format.specs.Settled.{settled_in}
use Rattle.spool_format.specs.Deferred.{deferred_in}
use Rattle.spool_format.specs.declared.deferred.Deferral.{Deferral}
use Rattle.spool_format.proofs.ReadLemmas.{held_long}
use Rattle.spool_index.specs.declared.place.Place.{Place}
use Rattle.spool_index.specs.Places.{has, without, with_delay}
use Rattle.spool_store.specs.Content.{Item, fresh, place_of, places_of, has_item, without_item, with_deferral, hold_in, settle_in, defer_in}
use Rattle.spool_store.specs.inside.Replay.{Takes}
use Rattle.spool_store.proofs.Lists.{places-append, places-without, places-deferral}

place_with : ℕ → ℕ → ℕ → ℕ → ℕ → Place
place_with id at size failures due = record { id = id; at = at; size = size; failures = failures; due = due }

-- a message that is not pending is held
pub takes_held : (at : ℕ) (payload : List ℕ) (m : Message) (p : Place) (old new : List Place) → held_in payload ≡ Some m → has m.id old ≡ false
    → p ≡ record { id = m.id; at = at; size = length payload; failures = 0; due = m.created } → new ≡ old ++ p ∷ []
    → Takes true (λ items. hold_in at items (held_in payload)) old new
takes_held at payload m p old new held free is pushed = λ items same.
    let none : has_item m.id items ≡ false = ap (λ (l : List Place). has m.id l) (sym same) ∙ free in
    let i : Item = record { at = at; kept = fresh m } in
    let place : p ≡ place_of i = is ∙ ap (λ (k : ℕ). record { id = m.id; at = at; size = k; failures = 0; due = m.created }) (held_long payload m held) in (
      items ++ i ∷ [],
      ap (λ (o : Option Message). hold_in at items o) held ∙ ap (λ (t : Bool). cond t None (Some (items ++ i ∷ []))) none,
      pushed ∙ ap (λ (l : List Place). l ++ p ∷ []) same ∙ ap (λ (q : Place). places_of items ++ q ∷ []) place ∙ sym (places-append items (i ∷ [])),
    )

pub takes_no_held : (at : ℕ) (payload : List ℕ) (m : Message) (old new : List Place) → held_in payload ≡ Some m → has m.id old ≡ true
    → Takes false (λ items. hold_in at items (held_in payload)) old new
takes_no_held at payload m old new held known = λ items same.
    let some : has_item m.id items ≡ true = ap (λ (l : List Place). has m.id l) (sym same) ∙ known in
    ap (λ (o : Option Message). hold_in at items o) held ∙ ap (λ (t : Bool). cond t None (Some (items ++ (record { at = at; kept = fresh m }) ∷ []))) some

pub takes_malformed : (at : ℕ) (payload : List ℕ) (old new : List Place) → held_in payload ≡ None → Takes false (λ items. hold_in at items (held_in payload)) old new
takes_malformed at payload old new none = λ items same. ap (λ (o : Option Message). hold_in at items o) none

-- a message that is pending is settled
pub takes_settled : (payload : List ℕ) (id : ℕ) (old new : List Place) → settled_in payload ≡ Some id → has id old ≡ true → new ≡ without id old
    → Takes true (λ items. settle_in items (settled_in payload)) old new
takes_settled payload id old new settled known is = λ items same.
    let some : has_item id items ≡ true = ap (λ (l : List Place). has id l) (sym same) ∙ known in (
      without_item id items,
      ap (λ (o : Option ℕ). settle_in items o) settled ∙ ap (λ (t : Bool). cond t (Some (without_item id items)) None) some,
      is ∙ ap (λ (l : List Place). without id l) same ∙ sym (places-without id items),
    )

pub takes_no_settled : (payload : List ℕ) (id : ℕ) (old new : List Place) → settled_in payload ≡ Some id → has id old ≡ false
    → Takes false (λ items. settle_in items (settled_in payload)) old new
takes_no_settled payload id old new settled free = λ items same.
    let none : has_item id items ≡ false = ap (λ (l : List Place). has id l) (sym same) ∙ free in
    ap (λ (o : Option ℕ). settle_in items o) settled ∙ ap (λ (t : Bool). cond t (Some (without_item id items)) None) none

-- a message that is pending is deferred
pub takes_deferred : (payload : List ℕ) (d : Deferral) (old new : List Place) → deferred_in payload ≡ Some d → has d.id old ≡ true → new ≡ with_delay d.id d.failures d.due old
    → Takes true (λ items. defer_in items (deferred_in payload)) old new
takes_deferred payload d old new is_read known is = λ items same.
    let some : has_item d.id items ≡ true = ap (λ (l : List Place). has d.id l) (sym same) ∙ known in (
      with_deferral d items,
      ap (λ (o : Option Deferral). defer_in items o) is_read ∙ ap (λ (t : Bool). cond t (Some (with_deferral d items)) None) some,
      is ∙ ap (λ (l : List Place). with_delay d.id d.failures d.due l) same ∙ sym (places-deferral d items),
    )

pub takes_no_deferred : (payload : List ℕ) (d : Deferral) (old new : List Place) → deferred_in payload ≡ Some d → has d.id old ≡ false
    → Takes false (λ items. defer_in items (deferred_in payload)) old new
takes_no_deferred payload d old new is_read free = λ items same.
    let none : has_item d.id items ≡ false = ap (λ (l : List Place). has d.id l) (sym same) ∙ free in
    ap (λ (o : Option Deferral). defer_in items o) is_read ∙ ap (λ (t : Bool). cond t (Some (with_deferral d items)) None) none
