-- What the parts of opening a spool answer.
use Rattle.std.specs.Prelude.{◌≡◌, ◌⊎◌, ℕ, List, [], IfSome, ⊤}
use Rattle.kumo_disk.specs.Disk.{Image, DiskSeen, Lasts}
use Rattle.spool_log.specs.Area.{Form, IsVersion}
use Rattle.spool_log.specs.Head.{start_of}
use Rattle.spool_log.specs.declared.head.Header.{Header}
use Rattle.spool_log.specs.declared.head.Start.{Start}
use Rattle.spool_log.specs.declared.head.Start.TheVariants as start
use Rattle.spool_log.specs.declared.log.Found.{Found}
use Rattle.spool_log.specs.declared.log.Found.TheVariants as found
use Rattle.spool_store.specs.Reading.{Force, Nothing, InForce, Faulty}
use Rattle.spool_store.specs.declared.faults.OpenFault.{OpenFault}
use Rattle.spool_store.specs.declared.faults.OpenFault.TheVariants as open_fault
use Rattle.spool_store.specs.declared.open.Choice.{Choice}
use Rattle.spool_store.specs.declared.open.Choice.TheVariants as choice

-- calls that read alone: what is told is the same, and a crash leaves nothing that it might not have left before
pub record IsStill (old new : DiskSeen) : Type 0 where
  pub same : new.told ≡ old.told
  pub time : Lasts old new
  pub images : IfSome old.told (λ read. (image : Image) → new.left old.moment image → old.left old.moment image)

-- that the pending messages are too large is for the caller to say
abbrev pub IsNotLarge : OpenFault → Type 0
IsNotLarge open_fault.DiskFault = ⊤
IsNotLarge (open_fault.Damaged area at) = ⊤
IsNotLarge (open_fault.TooLarge pending) = ⊥
IsNotLarge open_fault.Memory = ⊤

-- the disk, or want of memory
abbrev pub IsNoDamage : OpenFault → Type 0
IsNoDamage open_fault.DiskFault = ⊤
IsNoDamage (open_fault.Damaged area at) = ⊥
IsNoDamage (open_fault.TooLarge pending) = ⊥
IsNoDamage open_fault.Memory = ⊤

-- no fault of the disk
abbrev pub IsNotOfDisk : OpenFault → Type 0
IsNotOfDisk open_fault.DiskFault = ⊥
IsNotOfDisk (open_fault.Damaged area at) = ⊤
IsNotOfDisk (open_fault.TooLarge pending) = ⊥
IsNotOfDisk open_fault.Memory = ⊤

-- the disk, or this header is wrong
abbrev pub IsWrongHeader : ℕ → List ℕ → OpenFault → Type 0
IsWrongHeader n area open_fault.DiskFault = ⊤
IsWrongHeader n area (open_fault.Damaged m at) = (m ≡ n) × (start_of area ≡ start.Wrong at)
IsWrongHeader n area (open_fault.TooLarge pending) = ⊥
IsWrongHeader n area open_fault.Memory = ⊥

abbrev pub start_found : Found → Start
start_found found.Blank = start.Blank
start_found (found.Open log) = start.Headed log.header

abbrev pub force_chosen : Choice → Force
force_chosen choice.Nothing = Nothing
force_chosen (choice.Chosen log) = InForce log.area
force_chosen choice.Apart = Faulty 1 8

-- a log that was found is of this area, and has a version that is known
abbrev pub IsLogOf : ℕ → Found → Type 0
IsLogOf area found.Blank = ⊤
IsLogOf area (found.Open log) = (log.area ≡ area) × IsVersion log.header.version

-- the chosen log is the first or the second
abbrev pub IsEither : Found → Found → Choice → Type 0
IsEither first second choice.Nothing = ⊤
IsEither first second (choice.Chosen log) = (first ≡ found.Open log) ⊎ (second ≡ found.Open log)
IsEither first second choice.Apart = ⊤

-- the header of the first log that is made
abbrev pub first_header : Header
first_header = record { version = 2; generation = 1 }

-- a blank area is blank, or that log
abbrev pub Begins : List ℕ → List ℕ → Type 0
Begins old new = start_of old ≡ start.Blank → (start_of new ≡ start.Blank) ⊎ Form first_header [] 16 new

-- a fault of the disk alone
abbrev pub IsOfDisk : OpenFault → Type 0
IsOfDisk open_fault.DiskFault = ⊤
IsOfDisk (open_fault.Damaged area at) = ⊥
IsOfDisk (open_fault.TooLarge pending) = ⊥
IsOfDisk open_fault.Memory = ⊥
