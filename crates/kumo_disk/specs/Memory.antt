-- A disk in memory: what it reads as, and what a crash may leave of it, by the calls that were made. Each call kept the bytes
-- that it replaced, so that one goes back from what the disk reads as now.
use Rattle.std.specs.Prelude.{◌≡◌, ◌⊎◌, ℕ, ◌+◌, ◌≤◌, List, [], ◌∷◌, ◌++◌, length, take, drop, reverse, Some}
use Rattle.std.proofs.Common.{zero, suc, inl, arith}
use Rattle.kumo_disk.specs.Disk.{Image, area_of, DiskSeen, Moved, Torn, Cut}
use Rattle.kumo_disk.specs.Failing.{plan_of, no_plan}
use Rattle.kumo_disk.specs.declared.kept_call.KeptCall.{KeptCall}
use Rattle.kumo_disk.specs.declared.kept_call.Effect.{Effect}
use Rattle.kumo_disk.specs.declared.kept_call.Effect.TheVariants.{Write, Shorten, Sync}
use Rattle.kumo_disk.specs.declared.mem_disk.MemDisk.{MemDisk}

-- what a read gives of both areas
abbrev pub reads : MemDisk → Image
reads disk = record { first = disk.first.items; second = disk.second.items }

-- an image with these bytes in one area
abbrev pub with_area : ℕ → List ℕ → Image → Image
with_area zero bytes image = record { first = bytes; second = image.second }
with_area (suc zero) bytes image = record { first = image.first; second = bytes }
with_area (suc (suc area)) bytes image = image

-- an area before the call that reads so after it
abbrev pub before_call : KeptCall → List ℕ → List ℕ
before_call call now = take call.at now ++ call.replaced.items ++ drop (call.at + call.placed) now

-- both areas before it
abbrev pub undone : KeptCall → Image → Image
undone call now = with_area call.area (before_call call (area_of call.area now)) now

-- as it was, where it was as it read
abbrev pub SameAs : List ℕ → List ℕ → List ℕ → Type 0
SameAs read old new = (new ≡ old) × (new ≡ read)

-- What a call may have done to an area that a crash finds, at this offset, where a read gave these bytes. A sync that was
-- made left what was read.
abbrev pub Does : Effect → ℕ → List ℕ → List ℕ → List ℕ → Type 0
Does (Write count) at read old new = Torn at count (length read) old new
Does Shorten at read old new = Cut at old new
Does Sync at read old new = SameAs read old new

-- What a crash may leave, by what is read now and the calls that were made, the last one first: what is read, or what the last
-- call made of something that a crash might have left before it.
abbrev pub May : Image → List KeptCall → Image → Type 0
May now [] image = image ≡ now
May now (call ∷ calls) image =
    (image ≡ now)
    ⊎ ((from : Image) × May (undone call now) calls from
    × Moved call.area (Does call.effect call.at (area_of call.area (undone call now))) from image)

-- the same so many calls ago
abbrev pub MayAgo : ℕ → Image → List KeptCall → Image → Type 0
MayAgo zero now calls image = May now calls image
MayAgo (suc ago) now [] image = ⊥
MayAgo (suc ago) now (call ∷ calls) image = MayAgo ago (undone call now) calls image

-- at some moment from s on, where so many calls were made
abbrev pub MaySince : Image → List KeptCall → ℕ → ℕ → Image → Type 0
MaySince now calls made s image = (ago : ℕ) × (s + ago ≤ made) × MayAgo ago now calls image

abbrev pub left_by : Image → List KeptCall → ℕ → Image → Type 0
left_by now calls s image = MaySince now (reverse calls) (length calls) s image

pub may_as_read : (now : Image) (calls : List KeptCall) (image : Image) → image ≡ now → May now calls image
may_as_read now [] image is = is
may_as_read now (call ∷ calls) image is = inl is

pub left_earlier : (now : Image) (calls : List KeptCall) (s t : ℕ) (image : Image) → s ≤ t → t ≤ length calls → left_by now calls t image → left_by now calls s image
left_earlier now calls s t image le last left = (left.0, omega (arith, le, left.1), left.2)

pub left_as_read : (now : Image) (calls : List KeptCall) (image : Image) → Some now ≡ Some image → left_by now calls (length calls) image
left_as_read now calls image told = (0, omega arith, may_as_read now (reverse calls) image (same now image told))
  where
    same : (a b : Image) → Some a ≡ Some b → b ≡ a
    same a b is = cc

-- What is seen of a disk, by what is read now, the calls that were kept, the first one first, and the faults. The moment is the
-- count of the calls.
abbrev pub seen_by : Image → List KeptCall → ℕ → DiskSeen
seen_by now calls faults = record {
  told = Some now;
  moment = length calls;
  left = λ s image. left_by now calls s image;
  faults = faults;
  earlier = λ s t image le last left. left_earlier now calls s t image le last left;
  as_read = λ image told. left_as_read now calls image told;
}

abbrev pub mem_seen : MemDisk → DiskSeen
mem_seen disk = seen_by (reads disk) disk.calls.items disk.faults

-- A disk that reads as these bytes, and of which a crash can leave nothing else. It has not failed.
pub record Holds (first second : List ℕ) (seen : DiskSeen) : Type 0 where
  pub told : seen.told ≡ Some (record { first = first; second = second })
  pub only : (s : ℕ) (image : Image) → seen.left s image → image ≡ record { first = first; second = second }
  pub faults : seen.faults ≡ 0

-- a disk of which no call is to fail, that holds an image that a crash may leave of the other
pub record HoldsImage (of : DiskSeen) (disk : MemDisk) : Type 0 where
  pub image : Image
  pub may_be_left : of.left of.moment image
  pub holds : Holds image.first image.second (mem_seen disk)
  pub plan : plan_of disk ≡ no_plan

-- how often the disk was refused memory for what it keeps
abbrev pub refusals : MemDisk → ℕ
refusals disk = disk.refused

-- Whatever the step may make of something that a crash might have left before, a crash may leave now.
abbrev pub LeavesEach : ℕ → (List ℕ → List ℕ → Type 0) → DiskSeen → DiskSeen → Type 0
LeavesEach area step old new =
    (from image : Image) → old.left old.moment from → Moved area step from image → new.left new.moment image

-- both show the same
pub record ShowsSame (old new : DiskSeen) : Type 0 where
  pub told : new.told ≡ old.told
  pub moment : new.moment ≡ old.moment
  pub left : (s : ℕ) (image : Image) → (old.left s image → new.left s image) × (new.left s image → old.left s image)
  pub faults : new.faults ≡ old.faults
