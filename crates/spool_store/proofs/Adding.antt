-- What one more record of each kind leaves pending.
use Rattle.std.proofs.Common.{◌≡◌, ℕ, ◌+◌, List, [], ◌∷◌, ◌++◌, length, true, false, Some, sym, ◌∙◌, ap}
use Rattle.queue_name.specs.declared.message.Message.{Message}
use Rattle.kumo_disk.specs.Disk.{DiskSeen, ReadMoves}
use Rattle.kumo_disk.specs.Calls.{Ran}
use Rattle.spool_log.specs.Area.{LogRecord, Adds, Added}
use Rattle.spool_log.specs.Log.{IsReady}
use Rattle.spool_log.specs.declared.log.Log.{Log}
use Rattle.spool_format.specs.Held.{held_payload, held_in}
use Rattle.spool_format.specs.Settled.{settled_in}
use Rattle.spool_format.specs.Deferred.{deferred_in}
use Rattle.spool_format.specs.declared.deferred.Deferral.{Deferral}
use Rattle.spool_format.specs.declared.kept.Kept.{Kept}
use Rattle.spool_index.specs.declared.place.Place.{Place}
use Rattle.spool_index.specs.Places.{has, without, with_delay}
use Rattle.spool_store.specs.Content.{Item, fresh, after, kept_of, places_of, without_item, with_deferral, without_kept, with_deferral_kept}
use Rattle.spool_store.specs.Reading.{HasContent}
use Rattle.spool_store.specs.Crash.{Since, Either}
use Rattle.spool_store.specs.Standing.{Stands}
use Rattle.spool_store.proofs.Lists.{places-without, places-deferral, kept-without, kept-deferral, kept-append, places-append, after_held, after_settled, after_deferred}
use Rattle.spool_store.proofs.Keeping.{since_adds, stands_adds, content_adds}

module _ (log : Log) (places : List Place) (m : Message) (payload : List ℕ) (a b : DiskSeen) (stands : Stands log places a)
    (is : payload ≡ held_payload m) (reads : held_in (held_payload m) ≡ Some m) (unknown : has m.id places ≡ false) where
  abbrev held : LogRecord
  held = record { kind = 1; payload = payload }

  abbrev with_held : List Item → List Item
  with_held items = items ++ (record { at = log.end + 6; kept = fresh m }) ∷ []

  abbrev with_fresh : List Kept → List Kept
  with_fresh kept = kept ++ fresh m ∷ []

  held_gives : (items : List Item) → places ≡ places_of items → after log.header.version log.end items held ≡ Some (with_held items)
  held_gives items same = after_held log.header.version log.end items m payload (ap (λ (l : List ℕ). held_in l) is ∙ reads) (ap (λ (l : List Place). has m.id l) (sym same) ∙ unknown)

  held_tells : (items : List Item) → places ≡ places_of items → kept_of (with_held items) ≡ with_fresh (kept_of items)
  held_tells items same = kept-append items ((record { at = log.end + 6; kept = fresh m }) ∷ [])

  pub held_since : (before : List Kept) → HasContent before a → Ran log.area (Adds log.header log.end (record { kind = 1; payload = payload })) a b → Since (Either before (before ++ fresh m ∷ [])) a b
  held_since before content ran = since_adds log places held a b stands with_held with_fresh held_gives held_tells before content ran

  module _ (later : Log) (size : ℕ) (next_is : later ≡ record { area = log.area; header = log.header; end = log.end + (6 + length payload) }) (size_is : size ≡ length (held_payload m))
      (ran : Ran log.area (Adds log.header log.end (record { kind = 1; payload = payload })) a b) (ready : IsReady later b)
      (added : ReadMoves log.area (Added log.header log.end later.end (record { kind = 1; payload = payload })) a b) where
    abbrev place : ℕ → Place
    place size = record { id = m.id; at = log.end + 6; size = size; failures = 0; due = m.created }

    held_places : (items : List Item) → places ≡ places_of items → places ++ place size ∷ [] ≡ places_of (with_held items)
    held_places items same = ap (λ (l : List Place). l ++ place size ∷ []) same ∙ ap (λ (k : ℕ). places_of items ++ place k ∷ []) size_is
        ∙ sym (places-append items ((record { at = log.end + 6; kept = fresh m }) ∷ []))

    pub held_stands : Stands later (places ++ (record { id = m.id; at = log.end + 6; size = size; failures = 0; due = m.created }) ∷ []) b
    held_stands = stands_adds log places held a b stands with_held with_fresh held_gives held_tells later (places ++ place size ∷ []) next_is held_places ran ready added

    pub held_content : (before : List Kept) → HasContent before a → HasContent (before ++ fresh m ∷ []) b
    held_content before content = content_adds log places held a b stands with_held with_fresh held_gives held_tells later (places ++ place size ∷ []) next_is held_places ran ready added before content

module _ (log : Log) (places : List Place) (id : ℕ) (payload : List ℕ) (a b : DiskSeen) (stands : Stands log places a)
    (says : settled_in payload ≡ Some id) (known : has id places ≡ true) where
  abbrev settled : LogRecord
  settled = record { kind = 2; payload = payload }

  settled_gives : (items : List Item) → places ≡ places_of items → after log.header.version log.end items settled ≡ Some (without_item id items)
  settled_gives items same = after_settled log.header.version log.end items id payload says (ap (λ (l : List Place). has id l) (sym same) ∙ known)

  settled_tells : (items : List Item) → places ≡ places_of items → kept_of (without_item id items) ≡ without_kept id (kept_of items)
  settled_tells items same = kept-without id items

  pub settled_since : (before : List Kept) → HasContent before a → Ran log.area (Adds log.header log.end (record { kind = 2; payload = payload })) a b → Since (Either before (without_kept id before)) a b
  settled_since before content ran = since_adds log places settled a b stands (without_item id) (without_kept id) settled_gives settled_tells before content ran

  module _ (later : Log) (next_is : later ≡ record { area = log.area; header = log.header; end = log.end + (6 + length payload) })
      (ran : Ran log.area (Adds log.header log.end (record { kind = 2; payload = payload })) a b) (ready : IsReady later b)
      (added : ReadMoves log.area (Added log.header log.end later.end (record { kind = 2; payload = payload })) a b) where
    settled_places : (items : List Item) → places ≡ places_of items → without id places ≡ places_of (without_item id items)
    settled_places items same = ap (λ (l : List Place). without id l) same ∙ sym (places-without id items)

    pub settled_stands : Stands later (without id places) b
    settled_stands = stands_adds log places settled a b stands (without_item id) (without_kept id) settled_gives settled_tells later (without id places) next_is settled_places ran ready added

    pub settled_content : (before : List Kept) → HasContent before a → HasContent (without_kept id before) b
    settled_content before content = content_adds log places settled a b stands (without_item id) (without_kept id) settled_gives settled_tells later (without id places) next_is settled_places ran ready added before content

module _ (log : Log) (places : List Place) (d : Deferral) (payload : List ℕ) (a b : DiskSeen) (stands : Stands log places a)
    (two : log.header.version ≡ 2) (says : deferred_in payload ≡ Some d) (known : has d.id places ≡ true) where
  abbrev put_off : LogRecord
  put_off = record { kind = 3; payload = payload }

  deferred_gives : (items : List Item) → places ≡ places_of items → after log.header.version log.end items put_off ≡ Some (with_deferral d items)
  deferred_gives items same = after_deferred log.header.version log.end items d payload two says (ap (λ (l : List Place). has d.id l) (sym same) ∙ known)

  deferred_tells : (items : List Item) → places ≡ places_of items → kept_of (with_deferral d items) ≡ with_deferral_kept d (kept_of items)
  deferred_tells items same = kept-deferral d items

  pub deferred_since : (before : List Kept) → HasContent before a → Ran log.area (Adds log.header log.end (record { kind = 3; payload = payload })) a b → Since (Either before (with_deferral_kept d before)) a b
  deferred_since before content ran = since_adds log places put_off a b stands (with_deferral d) (with_deferral_kept d) deferred_gives deferred_tells before content ran

  module _ (later : Log) (next_is : later ≡ record { area = log.area; header = log.header; end = log.end + (6 + length payload) })
      (ran : Ran log.area (Adds log.header log.end (record { kind = 3; payload = payload })) a b) (ready : IsReady later b)
      (added : ReadMoves log.area (Added log.header log.end later.end (record { kind = 3; payload = payload })) a b) where
    deferred_places : (items : List Item) → places ≡ places_of items → with_delay d.id d.failures d.due places ≡ places_of (with_deferral d items)
    deferred_places items same = ap (λ (l : List Place). with_delay d.id d.failures d.due l) same ∙ sym (places-deferral d items)

    pub deferred_stands : Stands later (with_delay d.id d.failures d.due places) b
    deferred_stands = stands_adds log places put_off a b stands (with_deferral d) (with_deferral_kept d) deferred_gives deferred_tells later (with_delay d.id d.failures d.due places) next_is deferred_places ran ready added

    pub deferred_content : (before : List Kept) → HasContent before a → HasContent (with_deferral_kept d before) b
    deferred_content before content = content_adds log places put_off a b stands (with_deferral d) (with_deferral_kept d) deferred_gives deferred_tells later (with_delay d.id d.failures d.due places) next_is deferred_places ran ready added before content
