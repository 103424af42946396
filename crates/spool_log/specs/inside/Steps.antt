-- What one or two calls of the disk do to the bytes of an area.
use Rattle.std.specs.Prelude.{◌≡◌, ℕ, ◌+◌, ◌<◌, ◌≤◌, ◌^◌, List, length, take, drop, Option, MatchOption, ⊤}
use Rattle.std.proofs.Common.{get_or}
use Rattle.std.specs.Int.{from_be_bytes, w32}
use Rattle.kumo_disk.specs.Disk.{Places}
use Rattle.spool_log.specs.Area.{header_of, RecordAt, NoRecordAt}
use Rattle.spool_log.specs.declared.read.LogFault.{LogFault}
use Rattle.spool_log.specs.declared.read.LogFault.TheVariants as fault
use Rattle.spool_log.specs.declared.head.Start.{Start}
use Rattle.spool_log.specs.declared.head.Start.TheVariants.{Blank, Wrong, Headed}

-- the first k bytes stand, or as many as there are
abbrev pub KeepsFront : ℕ → List ℕ → List ℕ → Type 0
KeepsFront k old new = (j : ℕ) → j ≤ k → j ≤ length old → (j ≤ length new) × (take j new ≡ take j old)

-- one byte may be another
pub record Flipped (at : ℕ) (old new : List ℕ) : Type 0 where
  pub before : take at new ≡ take at old
  pub after : drop (at + 1) new ≡ drop (at + 1) old
  pub long : length new ≡ length old

abbrev pub Flips : ℕ → List ℕ → List ℕ → Type 0
Flips at old new = at < length old → Flipped at old new

abbrev pub StaysShort : List ℕ → List ℕ → Type 0
StaysShort old new = length old ≤ 1 → length new ≤ 1

-- these bytes, whatever there was
abbrev pub Becomes : List ℕ → List ℕ → List ℕ → Type 0
Becomes bytes old new = new ≡ bytes

-- the payload's length, by the four bytes that say it
abbrev pub size_in : List ℕ → ℕ
size_in bytes = from_be_bytes w32 (take 4 bytes)

abbrev pub HasRecord : ℕ → List ℕ → List ℕ → ℕ → Type 0
HasRecord at head area size =
    (size < 2 ^ 32) × (at + 7 + size ≤ length area)
    × RecordAt at (record { kind = get_or head 1 0; payload = take size (drop (at + 6) area) }) area

-- the answer on six bytes that were read at an offset
abbrev pub Judges : ℕ → ℕ → ℕ → List ℕ → Option ℕ → Type 0
Judges at n long head result = (area : List ℕ) → Places area at n head → long ≡ length area → get_or head 0 0 ≡ 1
    → MatchOption result (NoRecordAt at area) (HasRecord at head area)

-- no fault of the bytes
abbrev pub IsOther : LogFault → Type 0
IsOther fault.DiskFault = ⊤
IsOther (fault.Damaged at) = ⊥
IsOther fault.Memory = ⊤

abbrev pub SaysFront : List ℕ → Start → Type 0
SaysFront bytes Blank = ⊤
SaysFront bytes (Wrong at) = ⊤
SaysFront bytes (Headed h) = (take 16 bytes ≡ header_of h) × (17 ≤ length bytes)
