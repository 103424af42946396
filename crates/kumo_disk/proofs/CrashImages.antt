-- The images that a crash may leave, as disks.
use Rattle.std.proofs.Common.{◌≡◌, List, [], ◌∷◌, ◌++◌, reverse, All, MatchOption, sym, subst, arith}
use Rattle.std.specs.Prelude.{slice_get}
use Rattle.std.proofs.lemmas.List.Elements.{All-push}
use Rattle.kumo_disk.specs.Disk.{Image}
use Rattle.kumo_disk.specs.Failing.{plan_of, no_plan}
use Rattle.kumo_disk.specs.Memory.{May, reads, mem_seen, Holds, HoldsImage}
use Rattle.kumo_disk.specs.declared.mem_disk.MemDisk.{MemDisk}

-- the first of a list stays the first
pub first_stays : {X : Type 0} (P : X → Type 0) (xs : List X) (x : X) → MatchOption (slice_get xs 0) ⊥ P → MatchOption (slice_get (xs ++ x ∷ []) 0) ⊥ P
first_stays P [] x first = absurd first
first_stays P (y ∷ xs) x first = first

-- one disk more, that holds an image that may be left
pub image_pushed : (disk : MemDisk) (disks all : List MemDisk) (other : MemDisk) (image : Image) → all ≡ disks ++ other ∷ [] → May (reads disk) (reverse disk.calls.items) image
    → Holds image.first image.second (mem_seen other) → plan_of other ≡ no_plan → All (λ (d : MemDisk). HoldsImage (mem_seen disk) d) disks → All (λ (d : MemDisk). HoldsImage (mem_seen disk) d) all
image_pushed disk disks all other image is may holds plan before =
    subst (λ (l : List MemDisk). All (λ (d : MemDisk). HoldsImage (mem_seen disk) d) l) (sym is)
    (All-push (λ (d : MemDisk). HoldsImage (mem_seen disk) d) disks other before (record { image = image; may_be_left = (0, omega arith, may); holds = holds; plan = plan }))
