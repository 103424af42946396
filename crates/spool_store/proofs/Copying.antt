-- The calls that copy messages from one area into a draft in the other.
use Rattle.std.proofs.Common.{◌≡◌, ◌≢◌, inl, inr, ℕ, List, [], ◌∷◌, ◌++◌, length, take, drop, Option, Some, IfSome, Result, Ok, Err, OnOk, sym, ◌∙◌, subst, ap}
use Rattle.std.proofs.lemmas.Bool.{cases_eq}
use Rattle.std.proofs.lemmas.List.{append_assoc}
use Rattle.kumo_disk.specs.Disk.{Image, area_of, DiskSeen, Moved, Each, Same, Any}
use Rattle.kumo_disk.specs.Calls.{Ran}
use Rattle.kumo_disk.proofs.Runs.{at_some, if_some, moved_from, reads_same, ran_as, ran_then}
use Rattle.kumo_disk.proofs.Known.{left_after}
use Rattle.spool_log.specs.Area.{LogRecord, bytes_of_all, header_rest}
use Rattle.spool_log.specs.Head.{StartsShut}
use Rattle.spool_log.specs.Log.{IsDraft, StaysShut}
use Rattle.spool_log.specs.declared.draft.Draft.{Draft}
use Rattle.spool_index.specs.declared.place.Place.{Place}
use Rattle.spool_store.specs.inside.Rewriting.{deferral_of, copy_of, copies_of, AreWithin}

pub on_ok : {T E : Type 0} (P Q : Type 0) (r : Result T E) → (P → Q) → OnOk r P → OnOk r Q
on_ok P Q (Ok x) gives p = gives p
on_ok P Q (Err e) gives p = tt

-- an area under calls on the other one
pub other_reads : (area other : ℕ) (step : List ℕ → List ℕ → Type 0) (a b : DiskSeen) (read : Image) → area ≢ other → a.told ≡ Some read → Ran other step a b
    → (now : Image) × (b.told ≡ Some now) × (area_of area now ≡ area_of area read)
other_reads area other step a b read differs told ran =
    let after = moved_from other Any a b read told ran.reads in
    (after.0, after.1, after.2.elsewhere area differs)

-- reading one area leaves the other as it was
pub ran_other : (area other : ℕ) (a b : DiskSeen) → b.told ≡ a.told → Ran area Same a b → Ran other Same a b
ran_other area other a b same ran = record {
  time = ran.time;
  images = if_some (λ read. Each other Same a b) a.told (λ read told image left.
      let comes = at_some (λ read. Each area Same a b) a.told read told ran.images image left in
      (comes.0, comes.1, record { here = all comes.0 image comes.2 other; elsewhere = λ n differs. all comes.0 image comes.2 n }));
  reads = reads_same other a b same;
}
  where
    all : (from image : Image) → Moved area Same from image → (n : ℕ) → area_of n image ≡ area_of n from
    all from image moved n = elim (cases_eq n area) as (λ _. area_of n image ≡ area_of n from) [
      | inl is ↦ ap (λ (k : ℕ). area_of k image) is ∙ moved.here ∙ ap (λ (k : ℕ). area_of k from) (sym is)
      | inr differs ↦ moved.elsewhere n differs
    ]

pub same_shut : (area : ℕ) (a b : DiskSeen) → Ran area Same a b → Ran area StaysShut a b
same_shut area a b ran = ran_as area Same StaysShut a b (λ d e is shut. subst StartsShut (sym is) shut) ran

pub shut_then : (area : ℕ) (a b c : DiskSeen) → Ran area StaysShut a b → Ran area StaysShut b c → Ran area StaysShut a c
shut_then area a b c first second = ran_then area StaysShut StaysShut StaysShut a b c (λ d e stays. stays) (λ d e f one two shut. two (one shut)) first second

-- a draft under a call that changes nothing
pub draft_stays : (draft : Draft) (rs : List LogRecord) (a b : DiskSeen) → b.told ≡ a.told → Ran draft.area Same a b → IsDraft draft rs a → IsDraft draft rs b
draft_stays draft rs a b same ran is = record {
  area = is.area;
  version = is.version;
  fits = is.fits;
  low = is.low;
  small = is.small;
  ends = is.ends;
  bytes = subst (λ (o : Option Image). IfSome o (λ read. area_of draft.area read ≡ 0 ∷ header_rest draft.header ++ bytes_of_all rs)) (sym same) is.bytes;
  shut = left_after draft.area StartsShut StartsShut Same a b is.shut (λ x y shut stays. subst StartsShut (sym stays) shut) ran;
}

-- the payload that was read, and the deferral, are the records of a message
pub one_copied : (bytes : List ℕ) (p : Place) (piece : List ℕ) (rs : List LogRecord) → piece ≡ take (length piece) (drop p.at bytes) → length piece ≡ p.size
    → (rs ++ (record { kind = 1; payload = piece }) ∷ []) ++ deferral_of p ≡ rs ++ copy_of bytes p
one_copied bytes p piece rs is long =
    append_assoc rs ((record { kind = 1; payload = piece }) ∷ []) (deferral_of p)
    ∙ ap (λ (l : List ℕ). rs ++ (record { kind = 1; payload = l }) ∷ deferral_of p) (is ∙ ap (λ (k : ℕ). take k (drop p.at bytes)) long)

-- so far these records are in the draft, with those of the messages that are left
abbrev pub CopiedSoFar : ℕ → Draft → List Place → List Place → DiskSeen → DiskSeen → Type 0
CopiedSoFar area draft left all old now = IfSome old.told (λ read.
    AreWithin (area_of area read) left
    × ((rs : List LogRecord) × IsDraft draft rs now × (rs ++ copies_of (area_of area read) left ≡ copies_of (area_of area read) all)))

pub copied_next : (area other : ℕ) (before later : Draft) (p : Place) (left all : List Place) (a b c : DiskSeen) → area ≢ other → Ran other StaysShut a b
    → ((rs : List LogRecord) → IsDraft before rs b → IfSome b.told (λ read. IsDraft later (rs ++ copy_of (area_of area read) p) c))
    → CopiedSoFar area before (p ∷ left) all a b → CopiedSoFar area later left all a c
copied_next area other before later p left all a b c differs ran copied so_far = if_some _ a.told (λ read told.
    let here = at_some (λ read. AreWithin (area_of area read) (p ∷ left)
    × ((rs : List LogRecord) × IsDraft before rs b × (rs ++ copies_of (area_of area read) (p ∷ left) ≡ copies_of (area_of area read) all))) a.told read told so_far in
    let mid = other_reads area other StaysShut a b read differs told ran in
    let made : IsDraft later (here.1.0 ++ copy_of (area_of area mid.0) p) c = at_some (λ read. IsDraft later (here.1.0 ++ copy_of (area_of area read) p) c) b.told mid.0 mid.1 (copied here.1.0 here.1.1) in (
      here.0.1,
      (
        here.1.0 ++ copy_of (area_of area read) p,
        subst (λ (l : List ℕ). IsDraft later (here.1.0 ++ copy_of l p) c) mid.2 made,
        append_assoc here.1.0 (copy_of (area_of area read) p) (copies_of (area_of area read) left) ∙ here.1.2,
      ),
    ))
