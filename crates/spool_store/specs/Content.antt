-- What a list of records leaves pending: each message with its failures and due moment, in the order of holding.
use Rattle.std.specs.Prelude.{ℕ, ◌+◌, List, [], ◌∷◌, ◌++◌, length, map, Option, Some, None, Bool, ◌&&◌, ◌==◌, if◌then◌else◌}
use Rattle.queue_name.specs.declared.message.Message.{Message}
use Rattle.spool_log.specs.Area.{LogRecord, bytes_of}
use Rattle.spool_format.specs.Held.{held_payload, held_in}
use Rattle.spool_format.specs.Settled.{settled_in}
use Rattle.spool_format.specs.Deferred.{deferred_in}
use Rattle.spool_format.specs.declared.deferred.Deferral.{Deferral}
use Rattle.spool_format.specs.declared.kept.Kept.{Kept}
use Rattle.spool_index.specs.declared.place.Place.{Place}
use Rattle.spool_index.specs.Places.{has}

-- a pending message, and the offset at which its payload stands
pub record Item : Type 0 where
  pub at : ℕ
  pub kept : Kept

-- a message that has not failed is due when it was made
abbrev pub fresh : Message → Kept
fresh m = record { message = m; failures = 0; due = m.created }

abbrev pub id_of : Item → ℕ
id_of i = i.kept.message.id

abbrev pub kept_of : List Item → List Kept
kept_of items = map (λ i. i.kept) items

abbrev pub place_of : Item → Place
place_of i = record {
  id = i.kept.message.id;
  at = i.at;
  size = length (held_payload i.kept.message);
  failures = i.kept.failures;
  due = i.kept.due;
}

abbrev pub places_of : List Item → List Place
places_of items = map place_of items

abbrev pub has_item : ℕ → List Item → Bool
has_item id items = has id (places_of items)

-- without the first message of that id
abbrev pub without_item : ℕ → List Item → List Item
without_item id [] = []
without_item id (i ∷ items) = if i.kept.message.id == id then items else i ∷ without_item id items

abbrev pub deferred : Deferral → Item → Item
deferred d i = record { at = i.at; kept = record { message = i.kept.message; failures = d.failures; due = d.due } }

-- the first message of that id has these failures and is due then
abbrev pub with_deferral : Deferral → List Item → List Item
with_deferral d [] = []
with_deferral d (i ∷ items) = if i.kept.message.id == d.id then deferred d i ∷ items else i ∷ with_deferral d items

abbrev pub hold_in : ℕ → List Item → Option Message → Option (List Item)
hold_in at items None = None
hold_in at items (Some m) = if has_item m.id items then None else Some (items ++ (record { at = at; kept = fresh m }) ∷ [])

abbrev pub settle_in : List Item → Option ℕ → Option (List Item)
settle_in items None = None
settle_in items (Some id) = if has_item id items then Some (without_item id items) else None

abbrev pub defer_in : List Item → Option Deferral → Option (List Item)
defer_in items None = None
defer_in items (Some d) = if has_item d.id items then Some (with_deferral d items) else None

-- What is pending after one more record, whose gate stands at an offset, where it is a good one: a message that is not pending
-- is held (kind 1), or one that is pending is settled (kind 2) or, from version 2 on, deferred (kind 3).
abbrev pub after : ℕ → ℕ → List Item → LogRecord → Option (List Item)
after version at items r =
    if r.kind == 1 then hold_in (at + 6) items (held_in r.payload)
    else (if r.kind == 2 then settle_in items (settled_in r.payload)
    else (if (r.kind == 3) && (version == 2) then defer_in items (deferred_in r.payload) else None))

abbrev pub and_then : Option (List Item) → (List Item → Option (List Item)) → Option (List Item)
and_then None f = None
and_then (Some items) f = f items

-- what is pending after records that begin at an offset, where all are good ones
abbrev pub played : ℕ → ℕ → List Item → List LogRecord → Option (List Item)
played version at items [] = Some items
played version at items (r ∷ rs) =
    and_then (after version at items r) (λ later. played version (at + length (bytes_of r)) later rs)

-- the same of messages without the offsets of their payloads
abbrev pub without_kept : ℕ → List Kept → List Kept
without_kept id [] = []
without_kept id (k ∷ kept) = if k.message.id == id then kept else k ∷ without_kept id kept

abbrev pub deferred_kept : Deferral → Kept → Kept
deferred_kept d k = record { message = k.message; failures = d.failures; due = d.due }

abbrev pub with_deferral_kept : Deferral → List Kept → List Kept
with_deferral_kept d [] = []
with_deferral_kept d (k ∷ kept) = if k.message.id == d.id then deferred_kept d k ∷ kept else k ∷ with_deferral_kept d kept
