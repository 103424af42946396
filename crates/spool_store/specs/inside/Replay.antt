-- The records of the area in force, read one after the other.
use Rattle.std.specs.Prelude.{◌≡◌, ℕ, ◌+◌, ◌≤◌, ◌<◌, ◌^◌, List, [], ◌∷◌, ◌++◌, length, take, drop, map, Bool, true, false, Option, Some, None, IfSome, ⊤}
use Rattle.kumo_disk.specs.Disk.{area_of, DiskSeen}
use Rattle.spool_log.specs.Area.{LogRecord, bytes_of_all, header_of, Form, IsVersion, AreSmall}
use Rattle.spool_log.specs.declared.head.Header.{Header}
use Rattle.spool_log.specs.declared.log.Log.{Log}
use Rattle.spool_format.specs.Held.{held_in, held_payload}
use Rattle.spool_format.specs.declared.kept.Kept.{Kept}
use Rattle.spool_index.specs.declared.place.Place.{Place}
use Rattle.spool_store.specs.Content.{Item, played, place_of, places_of, kept_of}
use Rattle.spool_store.specs.Reading.{Breaks}
use Rattle.spool_store.specs.Store.{unplaced, waiting_of}
use Rattle.spool_store.specs.inside.Opening.{IsStill}
use Rattle.spool_store.specs.declared.faults.OpenFault.{OpenFault}
use Rattle.spool_store.specs.declared.faults.OpenFault.TheVariants as open_fault

-- Whatever messages stand at the places, a record that leaves these of them is taken in where it is a good one, and the places
-- are then those of what it leaves.
abbrev pub Takes : Bool → (List Item → Option (List Item)) → List Place → List Place → Type 0
Takes true leaves old new =
    (items : List Item) → old ≡ places_of items → (later : List Item) × (leaves items ≡ Some later) × (new ≡ places_of later)
Takes false leaves old new = (items : List Item) → old ≡ places_of items → leaves items ≡ None

-- the records up to this offset were read, and their messages stand at these places
pub record Seen (h : Header) (at : ℕ) (places : List Place) (area : List ℕ) : Type 0 where
  pub rs : List LogRecord
  pub rest : List ℕ
  pub split : area ≡ header_of h ++ bytes_of_all rs ++ rest
  pub ends : at ≡ length (header_of h ++ bytes_of_all rs)
  pub within : at < length area
  pub version : IsVersion h.version
  pub fits : h.generation < 2 ^ 64
  pub small : AreSmall rs
  pub items : List Item
  pub plays : played h.version 16 [] rs ≡ Some items
  pub same : places ≡ places_of items

-- All that was done since is that records were read.
pub record IsReplaying (log here : Log) (at : ℕ) (places : List Place) (old now : DiskSeen) : Type 0 where
  pub still : IsStill old now
  pub later : old.faults ≤ now.faults
  pub same : here ≡ log
  pub low : at + 1 < 2 ^ 63
  pub seen : IfSome old.told (λ read. Seen log.header at places (area_of log.area read))

-- all records were read, and their messages stand at these places
pub record IsReplayed (h : Header) (end : ℕ) (places : List Place) (area : List ℕ) : Type 0 where
  pub rs : List LogRecord
  pub form : Form h rs end area
  pub items : List Item
  pub plays : played h.version 16 [] rs ≡ Some items
  pub same : places ≡ places_of items

-- no good record stands there, or it is no fault of the bytes
abbrev pub BreaksAt : ℕ → List ℕ → OpenFault → Type 0
BreaksAt n area open_fault.DiskFault = ⊤
BreaksAt n area (open_fault.Damaged m at) = (m ≡ n) × Breaks at area
BreaksAt n area (open_fault.TooLarge pending) = ⊥
BreaksAt n area open_fault.Memory = ⊤

-- the payload of a pending message stands at its offset
pub record PayloadStands (area : List ℕ) (item : Item) : Type 0 where
  pub held : held_in (take (length (held_payload item.kept.message)) (drop item.at area)) ≡ Some item.kept.message
  pub within : item.at + length (held_payload item.kept.message) ≤ length area

abbrev pub AllStand : List ℕ → List Item → Type 0
AllStand area [] = ⊤
AllStand area (i ∷ items) = PayloadStands area i × AllStand area items

-- a message stands at a place
abbrev pub StandsThere : List ℕ → Place → Type 0
StandsThere area place = (item : Item) × (place ≡ place_of item) × PayloadStands area item

abbrev pub AllStandThere : List ℕ → List Place → Type 0
AllStandThere area places = (items : List Item) × (places ≡ places_of items) × AllStand area items

-- this is read at a place, whichever message stands there
abbrev pub IsRead : List ℕ → Place → Kept → Type 0
IsRead area place kept = (item : Item) → place ≡ place_of item → PayloadStands area item → kept ≡ item.kept

abbrev pub AreRead : List ℕ → List Place → List Kept → Type 0
AreRead area places kept = (items : List Item) → places ≡ places_of items → AllStand area items → kept ≡ kept_of items

-- these messages were read so far, and those of these places are left
pub record IsGathering (area : ℕ) (all left : List Place) (kept : List Kept) (old now : DiskSeen) : Type 0 where
  pub still : IsStill old now
  pub later : old.faults ≤ now.faults
  pub before : List Place
  pub split : all ≡ before ++ left
  pub waiting : map unplaced before ≡ map waiting_of kept
  pub read : IfSome old.told (λ read. AreRead (area_of area read) before kept)
