-- The command `spool`: what it prints of a disk, why it is refused, and what it leaves of the disk.
use Rattle.std.specs.Prelude.{◌≡◌, ◌⊎◌, ℕ, ◌<◌, ◌≤◌, List, flat_map, Option, Some, IfSome}
use Rattle.kumo_disk.specs.Disk.{Image, DiskSeen}
use Rattle.mail_input.specs.MailLine.{mail_line_of}
use Rattle.spool_format.specs.declared.kept.Kept.{Kept}
use Rattle.spool_store.specs.Reading.{Reads, Broken, Recovers}
use Rattle.spool_store.specs.Crash.{IsOpened, IsNotSynced}
use Rattle.spool_store.specs.Store.{live_size_of}
use Rattle.spool_store.specs.declared.limits.TheConstants.{AREA_LIMIT}
use Rattle.command_words.specs.Commands.{Command, spool}

-- a mail line for each message, in the order of holding
abbrev pub lines_of : List Kept → List ℕ
lines_of kept = flat_map (λ k. mail_line_of k.message) kept

-- the lines of the messages that are pending, where the disk tells what a read gives
abbrev pub IsSpoolText : Option Image → List ℕ → Type 0
IsSpoolText told text = (kept : List Kept) × IfSome told (λ read. Recovers read kept) × (text ≡ lines_of kept)

-- an area's bytes are wrong from this offset on
abbrev pub IsDamagedAt : Option Image → ℕ → ℕ → Type 0
IsDamagedAt told area at = IfSome told (λ read. Reads read (Broken area at))

-- what is pending may need more than an area may have
abbrev pub NeedsTooMuch : Option Image → Type 0
NeedsTooMuch told = IfSome told (λ read. (kept : List Kept) × Recovers read kept × (AREA_LIMIT < live_size_of kept))

-- the bytes are sound, and there is room for what is pending
pub record IsGoodSpool (told : Option Image) : Type 0 where
  pub read : Image
  pub kept : List Kept
  pub told_is : told ≡ Some read
  pub pending : Recovers read kept
  pub fits : live_size_of kept ≤ AREA_LIMIT

-- The spool was opened, as far as that went: a sync failed and both areas read as before, or from the opening syncs on each image
-- stands for what was read.
abbrev pub WasOpened : {D : Type 0} → (D → DiskSeen) → D → D → Type 0
WasOpened seen old new = IsNotSynced (seen old) (seen new) ⊎ IsOpened seen old new

-- `spool` opens the spool; every other command hands the disk back as it came
abbrev pub LeavesDisk : {D : Type 0} → (D → DiskSeen) → Option Command → D → D → Type 0
LeavesDisk seen (Some (spool folder)) old new = WasOpened seen old new
LeavesDisk seen _ old new = new ≡ old
