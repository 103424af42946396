-- What a crash may leave of a spool, at any moment of a call or of several.
use Rattle.std.specs.Prelude.{◌≡◌, ◌⊎◌, ℕ, List, Some, None, IfSome, MatchOption}
use Rattle.kumo_disk.specs.Disk.{Image, DiskSeen, Lasts}
use Rattle.spool_format.specs.declared.kept.Kept.{Kept}
use Rattle.spool_store.specs.Reading.{Reads, Broken, Recovers, HasContent}

-- a crash leaves what a read gives, and nothing else
abbrev pub IsOnDisk : DiskSeen → Type 0
IsOnDisk seen = IfSome seen.told (λ read. (image : Image) → seen.left seen.moment image → image ≡ read)

-- A crash may leave this image now of a disk that tells what a read gives, and that has these messages pending.
pub record MayLeave (kept : List Kept) (seen : DiskSeen) (image : Image) : Type 0 where
  pub read : Image
  pub told : seen.told ≡ Some read
  pub content : HasContent kept seen
  pub on_disk : IsOnDisk seen
  pub left : seen.left seen.moment image

-- Each image since the call began is so, by what was read when it began; the images from before are as they were; and what was
-- told still is.
pub record Since (P : Image → Image → Type 0) (old new : DiskSeen) : Type 0 where
  pub time : Lasts old new
  pub images : IfSome old.told (λ read. (image : Image) → new.left old.moment image → P read image)
  pub still : MatchOption old.told (new.told ≡ None) (λ read. (now : Image) × (new.told ≡ Some now))

-- these messages are pending, or those
abbrev pub Either : List Kept → List Kept → Image → Image → Type 0
Either before later read image = Recovers image before ⊎ Recovers image later

-- it stands for what was read
pub record StandsForRead (read image : Image) : Type 0 where
  pub sound : (kept : List Kept) → Recovers read kept → Recovers image kept
  pub broken : (n at : ℕ) → Reads read (Broken n at) → Reads image (Broken n at)

-- The opening syncs were made, and from then on each image stands for what was read.
pub record IsOpened {D : Type 0} (seen : D → DiskSeen) (old new : D) : Type 0 where
  pub mid : D
  pub same : (seen mid).told ≡ (seen old).told
  pub first : Lasts (seen old) (seen mid)
  pub on_disk : IsOnDisk (seen mid)
  pub then : Since StandsForRead (seen mid) (seen new)

-- A sync failed, and both areas read as before.
pub record IsNotSynced (old new : DiskSeen) : Type 0 where
  pub same : new.told ≡ old.told
  pub time : Lasts old new
