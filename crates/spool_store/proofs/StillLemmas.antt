-- Calls that change nothing of a disk.
use Rattle.std.proofs.Common.{◌≡◌, inl, inr, ⊎_elim, ℕ, ◌≤◌, List, Option, Some, None, IfSome, MatchOption, Result, Ok, Err, OnOk, refl, sym, ◌∙◌, subst, ap, arith}
use Rattle.std.proofs.lemmas.Bool.{cases_eq}
use Rattle.kumo_disk.specs.Disk.{Image, area_of, DiskSeen, Lasts, Moved, Each, IsDurable, Same}
use Rattle.kumo_disk.specs.Calls.{Ran}
use Rattle.kumo_disk.proofs.Runs.{at_some, if_some, lasts_now, lasts_then, ran_same, durable_elsewhere}
use Rattle.kumo_base.specs.Causes.{Rose}
use Rattle.spool_store.specs.declared.faults.OpenFault.{OpenFault}
use Rattle.spool_store.specs.declared.faults.OpenFault.TheVariants as open_fault
use Rattle.spool_store.specs.Store.{IsOpenCause}
use Rattle.spool_store.specs.Crash.{IsOnDisk, Since}
use Rattle.spool_store.specs.inside.Opening.{IsStill}

pub image_same : (a b : Image) → area_of 0 a ≡ area_of 0 b → area_of 1 a ≡ area_of 1 b → a ≡ b
image_same a b one two = same a.first b.first a.second b.second one two
  where
    of : List ℕ → List ℕ → Image
    of x y = record { first = x; second = y }

    same : (x y z w : List ℕ) → x ≡ y → z ≡ w → of x z ≡ of y w
    same x y z w first second = ap (λ (l : List ℕ). of l z) first ∙ ap (λ (l : List ℕ). of y l) second

-- an image of which each area is the same
moved_same : (area : ℕ) (a b : Image) → Moved area Same a b → b ≡ a
moved_same area a b moved = image_same b a (at 0) (at 1)
  where
    at : (n : ℕ) → area_of n b ≡ area_of n a
    at n = elim (cases_eq n area) as (λ _. area_of n b ≡ area_of n a) [
      | inl is ↦ ap (λ (k : ℕ). area_of k b) is ∙ moved.here ∙ ap (λ (k : ℕ). area_of k a) (sym is)
      | inr other ↦ moved.elsewhere n other
    ]

pub still_ran : (area : ℕ) (a b : DiskSeen) → b.told ≡ a.told → Ran area Same a b → IsStill a b
still_ran area a b same ran = record {
  same = same;
  time = ran.time;
  images = if_some (λ read. (image : Image) → b.left a.moment image → a.left a.moment image) a.told (λ read is image left.
      let comes = at_some (λ read. Each area Same a b) a.told read is ran.images image left in
      subst (λ (i : Image). a.left a.moment i) (sym (moved_same area comes.0 image comes.2)) comes.1);
}

pub still_call : (area : ℕ) (a b : DiskSeen) → Lasts a b → IfSome a.told (λ read. Each area Same a b) → b.told ≡ a.told → IsStill a b
still_call area a b time images same = still_ran area a b same (ran_same area a b time images same)

pub still_now : (a : DiskSeen) → IsStill a a
still_now a = record { same = refl; time = lasts_now a; images = if_some (λ read. (image : Image) → a.left a.moment image → a.left a.moment image) a.told (λ read is image left. left) }

pub still_then : (a b c : DiskSeen) → IsStill a b → IsStill b c → IsStill a c
still_then a b c first second = record {
  same = second.same ∙ first.same;
  time = lasts_then a b c first.time second.time;
  images = if_some (λ read. (image : Image) → c.left a.moment image → a.left a.moment image) a.told (λ read is image left.
      let one : (image : Image) → b.left a.moment image → a.left a.moment image = at_some (λ read. (image : Image) → b.left a.moment image → a.left a.moment image) a.told read is first.images in
      let two : (image : Image) → c.left b.moment image → b.left b.moment image = at_some (λ read. (image : Image) → c.left b.moment image → b.left b.moment image) b.told read (first.same ∙ is) second.images in
      ⊎_elim (λ was. one image was) (λ since. one image (b.earlier a.moment b.moment image first.time.later (omega arith) (two image since)))
      (second.time.nothing_else a.moment image first.time.later left));
}

pub on_disk_still : (a b : DiskSeen) → IsOnDisk a → IsStill a b → IsOnDisk b
on_disk_still a b on_disk still = if_some (λ read. (image : Image) → b.left b.moment image → image ≡ read) b.told (λ read is image left.
    let was : a.told ≡ Some read = sym still.same ∙ is in
    at_some (λ read. (image : Image) → a.left a.moment image → image ≡ read) a.told read was on_disk image
    (at_some (λ read. (image : Image) → b.left a.moment image → a.left a.moment image) a.told read was still.images image (b.earlier a.moment b.moment image still.time.later (omega arith) left)))

pub durable_on_disk : (area : ℕ) (a : DiskSeen) → IsOnDisk a → IsDurable area a
durable_on_disk area a on_disk = if_some (λ read. (image : Image) → a.left a.moment image → area_of area image ≡ area_of area read) a.told (λ read is image left.
    ap (λ (i : Image). area_of area i) (at_some (λ read. (image : Image) → a.left a.moment image → image ≡ read) a.told read is on_disk image left))

-- a crash leaves what is read of each area
pub on_disk_both : (a : DiskSeen) → IsDurable 0 a → IsDurable 1 a → IsOnDisk a
on_disk_both a first second = if_some (λ read. (image : Image) → a.left a.moment image → image ≡ read) a.told (λ read is image left.
    image_same image read
    (at_some (λ read. (image : Image) → a.left a.moment image → area_of 0 image ≡ area_of 0 read) a.told read is first image left)
    (at_some (λ read. (image : Image) → a.left a.moment image → area_of 1 image ≡ area_of 1 read) a.told read is second image left))

-- after a sync of each area
pub synced_both : {T E : Type 0} (b c : DiskSeen) (r : Result T E) → IsDurable 0 b → OnOk r (IsDurable 1 c) → Ran 1 Same b c → OnOk r (IsOnDisk c)
synced_both b c (Err e) first second ran = tt
synced_both b c (Ok x) first second ran = on_disk_both c (durable_elsewhere 1 0 Same b c (λ is. absurd (omega (arith, is))) ran first) second

-- calls that read alone, and then others
pub since_still : (P : Image → Image → Type 0) (a b c : DiskSeen) → ((image : Image) → P image image) → IsOnDisk a → IsStill a b → Since P b c → Since P a c
since_still P a b c same on_disk still since = record {
  time = lasts_then a b c still.time since.time;
  images = if_some (λ read. (image : Image) → c.left a.moment image → P read image) a.told (λ read is image left.
      let was : (image : Image) → b.left a.moment image → P read image = λ i old. subst (λ (k : Image). P read k)
      (sym (at_some (λ read. (image : Image) → a.left a.moment image → image ≡ read) a.told read is on_disk i
      (at_some (λ read. (image : Image) → b.left a.moment image → a.left a.moment image) a.told read is still.images i old))) (same read) in
      ⊎_elim (λ old. was image old) (λ new. at_some (λ read. (image : Image) → c.left b.moment image → P read image) b.told read (still.same ∙ is) since.images image new)
      (since.time.nothing_else a.moment image still.time.later left));
  still = subst (λ (o : Option Image). MatchOption o (c.told ≡ None) (λ read. (now : Image) × (c.told ≡ Some now))) still.same since.still;
}

-- calls that read alone
pub since_reading : (P : Image → Image → Type 0) (a b : DiskSeen) → ((image : Image) → P image image) → IsOnDisk a → IsStill a b → Since P a b
since_reading P a b same on_disk still = record {
  time = still.time;
  images = if_some (λ read. (image : Image) → b.left a.moment image → P read image) a.told (λ read is image left.
      subst (λ (k : Image). P read k)
      (sym (at_some (λ read. (image : Image) → a.left a.moment image → image ≡ read) a.told read is on_disk image
      (at_some (λ read. (image : Image) → b.left a.moment image → a.left a.moment image) a.told read is still.images image left))) (same read));
  still = told a.told still.same;
}
  where
    told : (o : Option Image) → b.told ≡ o → MatchOption o (b.told ≡ None) (λ read. (now : Image) × (b.told ≡ Some now))
    told None is = is
    told (Some read) is = (read, is)

-- a fault of a later call
pub cause_later : (a b c : ℕ) (e : OpenFault) → a ≤ b → b ≤ c → IsOpenCause (Rose b c) e → IsOpenCause (Rose a c) e
cause_later a b c open_fault.DiskFault first second rose = omega (arith, first, second, rose)
cause_later a b c (open_fault.Damaged area at) first second rose = tt
cause_later a b c (open_fault.TooLarge pending) first second rose = tt
cause_later a b c open_fault.Memory first second rose = tt
