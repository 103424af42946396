-- What the first 17 bytes of an area say.
use Rattle.std.specs.Prelude.{◌≡◌, ◌≢◌, ◌⊎◌, ℕ, ◌+◌, ◌≤◌, List, [], ◌∷◌, length, take, drop, Bool, false, Option, Some, None, nat_lt, if◌then◌else◌, ◌==◌}
use Rattle.std.proofs.Common.{get_or}
use Rattle.std.specs.Int.{from_be_bytes, w64}
use Rattle.spool_log.specs.declared.head.Header.{Header}
use Rattle.spool_log.specs.declared.head.Start.{Start}
use Rattle.spool_log.specs.declared.head.Start.TheVariants.{Blank, Wrong, Headed}

-- the version of an area whose byte 4 is this; what is no version is judged as version 2
abbrev pub version_by : ℕ → ℕ
version_by byte = if byte == 1 then 1 else 2

abbrev pub version_in : List ℕ → ℕ
version_in area = version_by (get_or area 4 0)

-- bytes 1 to 7
abbrev pub magic : ℕ → List ℕ
magic version = 75 ∷ 83 ∷ 80 ∷ version ∷ 0 ∷ 0 ∷ 0 ∷ []

-- the offset of the first byte that is not the wanted one, or at which there is none, where the bytes begin at an offset
abbrev pub first_wrong : List ℕ → ℕ → List ℕ → Option ℕ
first_wrong [] at bytes = None
first_wrong (want ∷ wants) at [] = Some at
first_wrong (want ∷ wants) at (b ∷ bytes) = if b == want then first_wrong wants (at + 1) bytes else Some at

abbrev pub generation_in : List ℕ → ℕ
generation_in area = from_be_bytes w64 (take 8 (drop 8 area))

abbrev pub header_in : List ℕ → Header
header_in area = record { version = version_in area; generation = generation_in area }

-- an area is open where its byte 0 is 1 and it is longer than one byte
abbrev pub is_open : List ℕ → Bool
is_open [] = false
is_open (gate ∷ []) = false
is_open (gate ∷ b ∷ rest) = gate == 1

abbrev pub by_length : List ℕ → Start
by_length area = if nat_lt (length area) 17 then Wrong (length area) else Headed (header_in area)

abbrev pub by_magic : Option ℕ → List ℕ → Start
by_magic (Some at) area = Wrong at
by_magic None area = by_length area

-- blank, or the least offset that is wrong, or the header
abbrev pub start_of : List ℕ → Start
start_of area = if is_open area then by_magic (first_wrong (magic (version_in area)) 1 (drop 1 area)) area else Blank

-- emptying leaves the area as it was, or blank
abbrev pub Clears : List ℕ → List ℕ → Type 0
Clears old new = (new ≡ old) ⊎ (start_of new ≡ Blank)

-- the first gate is there and closed
abbrev pub StartsShut : List ℕ → Type 0
StartsShut area = (1 ≤ length area) × (get_or area 0 0 ≢ 1)
