-- A store as its callers see it, and what its calls answer.
use Rattle.std.specs.Prelude.{◌≡◌, ℕ, ◌+◌, ◌*◌, ◌<◌, ◌≤◌, nat_le, nat_lt, List, [], ◌∷◌, ◌++◌, length, map, Bool, true, false, ◌&&◌, Result, IfErr, ⊤}
use Rattle.kumo_base.specs.Causes.{Rose}
use Rattle.kumo_disk.specs.Disk.{Image}
use Rattle.spool_format.specs.Held.{held_payload}
use Rattle.spool_format.specs.declared.kept.Kept.{Kept}
use Rattle.spool_index.specs.declared.place.Place.{Place}
use Rattle.spool_index.specs.Places.{live_size, compacted_size}
use Rattle.spool_store.specs.Reading.{Reads, Broken, Recovers}
use Rattle.spool_store.specs.declared.faults.OpenFault.{OpenFault}
use Rattle.spool_store.specs.declared.faults.OpenFault.TheVariants as open_fault
use Rattle.spool_store.specs.declared.faults.HoldFault.{HoldFault}
use Rattle.spool_store.specs.declared.faults.HoldFault.TheVariants as hold_fault
use Rattle.spool_store.specs.declared.faults.SettleFault.{SettleFault}
use Rattle.spool_store.specs.declared.faults.SettleFault.TheVariants as settle_fault
use Rattle.spool_store.specs.declared.faults.CompactFault.{CompactFault}
use Rattle.spool_store.specs.declared.faults.CompactFault.TheVariants as compact_fault
use Rattle.spool_store.specs.declared.limits.TheConstants.{AREA_LIMIT}

-- a pending message without the place of its record
abbrev pub unplaced : Place → Place
unplaced p = record p { at = 0 }

abbrev pub waiting_of : Kept → Place
waiting_of k = record {
  id = k.message.id;
  at = 0;
  size = length (held_payload k.message);
  failures = k.failures;
  due = k.due;
}

-- the bytes that an area has to have room for, with these messages pending
abbrev pub live_size_of : List Kept → ℕ
live_size_of kept = live_size (map waiting_of kept)

-- what opening answers where it fails, by what was read
abbrev pub IsOpenFault : Image → OpenFault → Type 0
IsOpenFault read open_fault.DiskFault = ⊤
IsOpenFault read (open_fault.Damaged area at) = Reads read (Broken area at)
IsOpenFault read (open_fault.TooLarge pending) =
    (kept : List Kept) × Recovers read kept × (pending ≡ length kept) × (AREA_LIMIT < live_size_of kept)
IsOpenFault read open_fault.Memory = ⊤

-- a fault of the disk comes only where its count rose
abbrev pub IsOpenCause : Type 0 → OpenFault → Type 0
IsOpenCause Risen open_fault.DiskFault = Risen
IsOpenCause Risen (open_fault.Damaged area at) = ⊤
IsOpenCause Risen (open_fault.TooLarge pending) = ⊤
IsOpenCause Risen open_fault.Memory = ⊤

pub record HasOpenCause {T : Type 0} (before now : ℕ) (result : Result T OpenFault) : Type 0 where
  pub later : before ≤ now
  pub failed : IfErr result (IsOpenCause (Rose before now))

-- what a caller sees of a store: its disk, what is pending in it, the offset behind its last gate, for how many deferrals it has
-- room, and whether its disk has failed
pub record StoreSeen (D : Type 0) : Type 0 where
  pub disk : D
  pub pending : List Place
  pub length : ℕ
  pub room : ℕ
  pub down : Bool

-- There is room to settle each pending message, and for so many deferrals.
abbrev pub HasRoom : {D : Type 0} → StoreSeen D → Type 0
HasRoom s = s.length + 22 * length s.pending + 34 * s.room ≤ AREA_LIMIT

-- the area is long, and longer than twice what it would be if it was written anew
abbrev pub wants_compact : {D : Type 0} → StoreSeen D → Bool
wants_compact s = nat_le 65536 s.length && nat_lt (2 * compacted_size s.pending) s.length

-- a call that came to a store that was down: nothing was done
abbrev pub IsDownStill : {D : Type 0} → StoreSeen D → StoreSeen D → Type 0
IsDownStill old new = (old.down ≡ true) × (new ≡ old)

-- the disk failed in this call
abbrev pub GoesDown : {D : Type 0} → StoreSeen D → StoreSeen D → Type 0
GoesDown old new = (old.down ≡ false) × (new.down ≡ true)

-- memory was wanted: the same messages are pending, and there is room as before
pub record StandsOn {D : Type 0} (old new : StoreSeen D) : Type 0 where
  pub up : (old.down ≡ false) × (new.down ≡ false)
  pub pending : new.pending ≡ old.pending
  pub room : new.room ≡ old.room

-- what each refusal of a message comes from, and what it leaves
abbrev pub IsHoldRefusal : {D : Type 0} → StoreSeen D → StoreSeen D → Place → Type 0 → HoldFault → Type 0
IsHoldRefusal old new place Risen hold_fault.Down = IsDownStill old new
IsHoldRefusal old new place Risen hold_fault.SpoolFull =
    (old.down ≡ false) × (new ≡ old) × (AREA_LIMIT < live_size (old.pending ++ place ∷ []))
IsHoldRefusal old new place Risen hold_fault.DiskFault = GoesDown old new × Risen
IsHoldRefusal old new place Risen hold_fault.Memory = StandsOn old new

abbrev pub IsSettleRefusal : {D : Type 0} → StoreSeen D → StoreSeen D → Type 0 → SettleFault → Type 0
IsSettleRefusal old new Risen settle_fault.Down = IsDownStill old new
IsSettleRefusal old new Risen settle_fault.DiskFault = GoesDown old new × Risen

abbrev pub IsCompactRefusal : {D : Type 0} → StoreSeen D → StoreSeen D → Type 0 → CompactFault → Type 0
IsCompactRefusal old new Risen compact_fault.Down = IsDownStill old new
IsCompactRefusal old new Risen compact_fault.DiskFault = GoesDown old new × Risen
IsCompactRefusal old new Risen compact_fault.Memory = StandsOn old new
