-- What a log, a draft and their calls have to do with the disk.
use Rattle.std.specs.Prelude.{◌≡◌, ◌≢◌, ◌⊎◌, ℕ, ◌+◌, ◌<◌, ◌≤◌, ◌^◌, List, [], ◌∷◌, ◌++◌, length, take, Result, IfErr, IfSome, ⊤}
use Rattle.std.proofs.Common.{get_or}
use Rattle.kumo_base.specs.Causes.{Rose}
use Rattle.kumo_disk.specs.Disk.{Image, area_of, DiskSeen, IsDurable}
use Rattle.spool_log.specs.Area.{LogRecord, bytes_of_all, header_of, header_rest, IsVersion, AreSmall, Form, IsForm, IsDamaged, RecordAt}
use Rattle.spool_log.specs.Head.{start_of, StartsShut}
use Rattle.spool_log.specs.declared.head.Header.{Header}
use Rattle.spool_log.specs.declared.head.Start.TheVariants.{Blank, Wrong, Headed}
use Rattle.spool_log.specs.declared.log.Log.{Log}
use Rattle.spool_log.specs.declared.log.Found.{Found}
use Rattle.spool_log.specs.declared.log.Found.TheVariants as found
use Rattle.spool_log.specs.declared.read.Step.{Step}
use Rattle.spool_log.specs.declared.read.Step.TheVariants as step
use Rattle.spool_log.specs.declared.read.LogFault.{LogFault}
use Rattle.spool_log.specs.declared.read.LogFault.TheVariants as fault
use Rattle.spool_log.specs.declared.draft.Draft.{Draft}

-- the log's area is in form up to the log's end, and durable
pub record IsReady (log : Log) (seen : DiskSeen) : Type 0 where
  pub area : log.area < 2
  pub low : log.end + 1 < 2 ^ 63
  pub form : IfSome seen.told (λ read. IsForm log.header log.end (area_of log.area read))
  pub durable : IsDurable log.area seen

-- The draft has these records, in bytes with its first gate closed, and whatever a crash leaves of its area has that gate closed.
pub record IsDraft (draft : Draft) (rs : List LogRecord) (seen : DiskSeen) : Type 0 where
  pub area : draft.area < 2
  pub version : IsVersion draft.header.version
  pub fits : draft.header.generation < 2 ^ 64
  pub low : draft.end < 2 ^ 63
  pub small : AreSmall rs
  pub ends : draft.end ≡ 16 + length (bytes_of_all rs)
  pub bytes : IfSome seen.told (λ read. area_of draft.area read ≡ 0 ∷ header_rest draft.header ++ bytes_of_all rs)
  pub shut : IfSome seen.told (λ read. (image : Image) → seen.left seen.moment image → StartsShut (area_of draft.area image))

abbrev pub HasDraft : Draft → DiskSeen → Type 0
HasDraft draft seen = (rs : List LogRecord) × IsDraft draft rs seen

-- a fault of the disk comes only where its count rose
abbrev pub IsCauseOf : Type 0 → LogFault → Type 0
IsCauseOf Risen fault.DiskFault = Risen
IsCauseOf Risen (fault.Damaged at) = ⊤
IsCauseOf Risen fault.Memory = ⊤

pub record HasDiskCause {T : Type 0} (before now : ℕ) (result : Result T LogFault) : Type 0 where
  pub later : before ≤ now
  pub failed : IfErr result (IsCauseOf (Rose before now))

-- what opening an area answers, by its bytes
abbrev pub IsFound : ℕ → List ℕ → Found → Type 0
IsFound area bytes found.Blank = start_of bytes ≡ Blank
IsFound area bytes (found.Open log) =
    (start_of bytes ≡ Headed log.header) × (take 16 bytes ≡ header_of log.header) × (17 ≤ length bytes)

abbrev pub IsRefused : List ℕ → LogFault → Type 0
IsRefused bytes fault.DiskFault = ⊤
IsRefused bytes (fault.Damaged at) = start_of bytes ≡ Wrong at
IsRefused bytes fault.Memory = ⊥

-- a log that was found is of this area, and its records begin behind the header
abbrev pub IsOf : ℕ → Found → Type 0
IsOf area found.Blank = ⊤
IsOf area (found.Open log) = (log.area ≡ area) × (log.end ≡ 16)

-- what reading at a gate answers, by the area's bytes
abbrev pub StepAt : List ℕ → ℕ → List ℕ → Step → Type 0
StepAt area at payload (step.Record kind next) =
    RecordAt at (record { kind = kind; payload = payload }) area × (next ≡ at + (6 + length payload))
StepAt area at payload step.End = get_or area at 0 ≢ 1

abbrev pub FaultAt : List ℕ → ℕ → LogFault → Type 0
FaultAt area at fault.DiskFault = ⊤
FaultAt area at (fault.Damaged offset) = (offset ≡ at) × IsDamaged at area
FaultAt area at fault.Memory = ⊤

-- the next gate lies further on
abbrev pub GoesOn : ℕ → Step → Type 0
GoesOn at (step.Record kind next) = (at < next) × (next + 1 < 2 ^ 63) × (kind < 256)
GoesOn at step.End = ⊤

-- at its end a log knows it, else it is as it was
abbrev pub Learns : ℕ → Log → Log → Step → Type 0
Learns at old new (step.Record kind next) = new ≡ old
Learns at old new step.End = new ≡ record { area = old.area; header = old.header; end = at }

-- An area of at most one byte is then blank, or a log without records.
abbrev pub Creates : Header → List ℕ → List ℕ → Type 0
Creates h old new = length old ≤ 1 → (start_of new ≡ Blank) ⊎ Form h [] 16 new

-- an area of at most one byte is then blank
abbrev pub BeginsBlank : List ℕ → List ℕ → Type 0
BeginsBlank old new = length old ≤ 1 → start_of new ≡ Blank

-- a first gate that was closed stays so
abbrev pub StaysShut : List ℕ → List ℕ → Type 0
StaysShut old new = StartsShut old → StartsShut new

-- an area whose first gate was closed has it closed, or is a log of these records
abbrev pub Opens : Header → List LogRecord → ℕ → List ℕ → List ℕ → Type 0
Opens h rs end old new = StartsShut old → StartsShut new ⊎ Form h rs end new
