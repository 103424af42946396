-- What a disk of two areas shows: what a read gives of it, what a crash may leave of it, and what each call does to both.
use Rattle.std.specs.Prelude.{◌≡◌, ◌≢◌, ◌⊎◌, ℕ, ◌+◌, ◌≤◌, ◌<◌, min, max, List, [], ◌++◌, length, take, drop, Option, Some, None, MatchOption, IfSome, ⊤}
use Rattle.std.proofs.Common.{zero, suc}

-- the bytes of both areas
pub record Image : Type 0 where
  pub first : List ℕ
  pub second : List ℕ

-- the bytes of area 0 or 1; there is no other
abbrev pub area_of : ℕ → Image → List ℕ
area_of zero image = image.first
area_of (suc zero) image = image.second
area_of (suc (suc area)) image = []

-- What a read gives, where the disk tells it; a number that never falls; each image that a crash may have left at a moment since
-- then; and how often the disk has failed. A later moment has no image that an earlier one has not, and as it reads a disk is
-- one of its images.
pub record DiskSeen : Type 1 where
  pub told : Option Image
  pub moment : ℕ
  pub left : ℕ → Image → Type 0
  pub faults : ℕ
  pub earlier : (s t : ℕ) (image : Image) → s ≤ t → t ≤ moment → left t image → left s image
  pub as_read : (image : Image) → told ≡ Some image → left moment image

-- a disk that tells nothing but its faults
abbrev pub untold : ℕ → DiskSeen
untold faults = record {
  told = None;
  moment = 0;
  left = λ moment image. ⊤;
  faults = faults;
  earlier = λ s t image earlier now left. left;
  as_read = λ image told. tt;
}

-- The images since a moment are those since then before the call, with those since the call began.
pub record Lasts (old new : DiskSeen) : Type 0 where
  pub later : old.moment ≤ new.moment
  pub nothing_else : (s : ℕ) (image : Image) → s ≤ old.moment → new.left s image → old.left s image ⊎ new.left old.moment image
  pub keeps : (s : ℕ) (image : Image) → s ≤ old.moment → old.left s image → new.left s image

-- one area by a step, the other as it was
pub record Moved (area : ℕ) (step : List ℕ → List ℕ → Type 0) (old new : Image) : Type 0 where
  pub here : step (area_of area old) (area_of area new)
  pub elsewhere : (other : ℕ) → other ≢ area → area_of other new ≡ area_of other old

-- Each image since the call began comes from one that a crash might have left when it began, by a step of this area alone.
abbrev pub Each : ℕ → (List ℕ → List ℕ → Type 0) → DiskSeen → DiskSeen → Type 0
Each area step old new =
    (image : Image) → new.left old.moment image → (from : Image) × old.left old.moment from × Moved area step from image

-- What a read gives has moved by a step of this area alone; what was not told stays untold.
abbrev pub ReadMoves : ℕ → (List ℕ → List ℕ → Type 0) → DiskSeen → DiskSeen → Type 0
ReadMoves area step old new =
    MatchOption old.told (new.told ≡ None) (λ was. (now : Image) × (new.told ≡ Some now) × Moved area step was now)

-- of this area a crash leaves what a read gives, and nothing else
abbrev pub IsDurable : ℕ → DiskSeen → Type 0
IsDurable area seen =
    IfSome seen.told (λ read. (image : Image) → seen.left seen.moment image → area_of area image ≡ area_of area read)

-- the bytes as they were
abbrev pub Same : List ℕ → List ℕ → Type 0
Same old new = new ≡ old

-- any bytes
abbrev pub Any : List ℕ → List ℕ → Type 0
Any old new = ⊤

-- the bytes with these at an offset
abbrev pub with_bytes : ℕ → List ℕ → List ℕ → List ℕ
with_bytes at bytes old = take at old ++ bytes ++ drop (at + length bytes) old

abbrev pub Written : ℕ → List ℕ → List ℕ → List ℕ → Type 0
Written at bytes old new = new ≡ with_bytes at bytes old

-- After a write of n bytes that may have been made in part, where a read gave `end` bytes: any bytes in its range and past the
-- end that it made longer, and the same bytes elsewhere.
pub record Torn (at n end : ℕ) (old new : List ℕ) : Type 0 where
  pub before : take (min at (length old)) new ≡ take at old
  pub after : at + n ≤ end → drop (at + n) new ≡ drop (at + n) old
  pub no_shorter : length old ≤ length new
  pub no_longer : length new ≤ max (length old) (at + n)

-- a cut to n bytes
abbrev pub Shortened : ℕ → List ℕ → List ℕ → Type 0
Shortened n old new = new ≡ take n old

-- after a cut to n bytes that may have been made in part: some length between
pub record Cut (n : ℕ) (old new : List ℕ) : Type 0 where
  pub no_shorter : min n (length old) ≤ length new
  pub front : take (length new) old ≡ new

-- a read from an offset placed the first n bytes of the buffer, fewer than the buffer has only at the area's end
pub record Places (bytes : List ℕ) (at n : ℕ) (buffer : List ℕ) : Type 0 where
  pub placed : take n buffer ≡ take n (drop at bytes)
  pub within : n ≤ length (drop at bytes)
  pub at_end : n < length buffer → length bytes ≤ at + n
