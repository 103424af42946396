-- What the bytes of both areas stand for: the pending messages, or an area that is damaged from an offset on.
use Rattle.std.specs.Prelude.{◌≡◌, ℕ, ◌+◌, ◌%◌, ◌^◌, List, [], ◌∷◌, ◌++◌, length, Some, None, IfSome, ◌==◌, if◌then◌else◌}
use Rattle.std.proofs.Common.{zero, suc}
use Rattle.kumo_disk.specs.Disk.{Image, DiskSeen}
use Rattle.spool_log.specs.Area.{LogRecord, bytes_of_all, header_of, Form, RecordAt, AreSmall}
use Rattle.spool_log.specs.Head.{start_of, header_in, version_in}
use Rattle.spool_log.specs.declared.head.Start.{Start}
use Rattle.spool_log.specs.declared.head.Start.TheVariants.{Blank, Wrong, Headed}
use Rattle.spool_format.specs.declared.kept.Kept.{Kept}
use Rattle.spool_store.specs.Content.{Item, after, played, kept_of}

pub data Reading : Type 0 where
  Sound : List Item → Reading
  Broken : ℕ → ℕ → Reading

-- the records up to this offset are good ones, and there stands an open gate with no good one behind it
pub record Breaks (at : ℕ) (area : List ℕ) : Type 0 where
  pub rs : List LogRecord
  pub rest : List ℕ
  pub split : area ≡ header_of (header_in area) ++ bytes_of_all rs ++ 1 ∷ rest
  pub ends : at ≡ length (header_of (header_in area) ++ bytes_of_all rs)
  pub small : AreSmall rs
  pub items : List Item
  pub plays : played (version_in area) 16 [] rs ≡ Some items
  pub no_more : (r : LogRecord) → RecordAt at r area → after (version_in area) at items r ≡ None

-- the records up to the first gate that is not open are good ones, and leave this
pub record IsSound (items : List Item) (area : List ℕ) : Type 0 where
  pub rs : List LogRecord
  pub end : ℕ
  pub form : Form (header_in area) rs end area
  pub plays : played (version_in area) 16 [] rs ≡ Some items

-- what the records of the area in force stand for
abbrev pub Walks : ℕ → List ℕ → Reading → Type 0
Walks n area (Sound items) = IsSound items area
Walks n area (Broken m at) = (m ≡ n) × Breaks at area

-- which area is in force: none where both are blank, one, or none since a header is wrong there
pub data Force : Type 0 where
  Nothing : Force
  InForce : ℕ → Force
  Faulty : ℕ → ℕ → Force

-- of two generations the one that follows the other; where none does, the second is wrong from its byte 8 on
abbrev pub by_generation : ℕ → ℕ → Force
by_generation first second =
    if (first + 1) % 2 ^ 64 == second then InForce 1 else (if (second + 1) % 2 ^ 64 == first then InForce 0 else Faulty 1 8)

abbrev pub force_of : Start → Start → Force
force_of (Wrong at) second = Faulty 0 at
force_of Blank Blank = Nothing
force_of Blank (Wrong at) = Faulty 1 at
force_of Blank (Headed h) = InForce 1
force_of (Headed g) Blank = InForce 0
force_of (Headed g) (Wrong at) = Faulty 1 at
force_of (Headed g) (Headed h) = by_generation g.generation h.generation

abbrev pub force_in : Image → Force
force_in image = force_of (start_of image.first) (start_of image.second)

abbrev pub by_force : Force → Image → Reading → Type 0
by_force Nothing image reading = reading ≡ Sound []
by_force (InForce zero) image reading = Walks 0 image.first reading
by_force (InForce (suc n)) image reading = Walks 1 image.second reading
by_force (Faulty n at) image reading = reading ≡ Broken n at

-- what both areas stand for
abbrev pub Reads : Image → Reading → Type 0
Reads image reading = by_force (force_in image) image reading

-- these messages are pending
pub record Recovers (image : Image) (kept : List Kept) : Type 0 where
  pub items : List Item
  pub reads : Reads image (Sound items)
  pub same : kept ≡ kept_of items

-- the disk, where it tells what a read gives, has these messages pending
abbrev pub HasContent : List Kept → DiskSeen → Type 0
HasContent kept seen = IfSome seen.told (λ read. Recovers read kept)
