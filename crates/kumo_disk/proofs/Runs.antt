-- How several calls of a disk are one.
use Rattle.std.proofs.Common.{◌≡◌, ◌≢◌, inl, inr, ⊎_elim, ℕ, List, Option, Some, None, IfSome, MatchOption, refl, sym, ◌∙◌, subst, arith, length}
use Rattle.kumo_disk.specs.Disk.{Image, area_of, DiskSeen, Lasts, Moved, Each, ReadMoves, IsDurable, Same, Any, Torn, Cut}
use Rattle.kumo_disk.specs.Calls.{Ran}

pub at_some : {T : Type 0} (P : T → Type 0) (o : Option T) (b : T) → o ≡ Some b → IfSome o P → P b
at_some P o b is holds = subst (λ (q : Option _). IfSome q P) is holds

pub if_some : {T : Type 0} (P : T → Type 0) (o : Option T) → ((b : T) → o ≡ Some b → P b) → IfSome o P
if_some P None holds = tt
if_some P (Some b) holds = holds b refl

-- what a read gives after a step, from what it gave before
pub moved_from : (area : ℕ) (step : List ℕ → List ℕ → Type 0) (old new : DiskSeen) (read : Image) → old.told ≡ Some read → ReadMoves area step old new
    → (now : Image) × (new.told ≡ Some now) × Moved area step read now
moved_from area step old new read is moves =
    subst (λ (o : Option Image). MatchOption o (new.told ≡ None) (λ was. (now : Image) × (new.told ≡ Some now) × Moved area step was now)) is moves

-- where nothing was told, nothing is
pub untold_from : (area : ℕ) (step : List ℕ → List ℕ → Type 0) (old new : DiskSeen) → old.told ≡ None → ReadMoves area step old new → new.told ≡ None
untold_from area step old new is moves =
    subst (λ (o : Option Image). MatchOption o (new.told ≡ None) (λ was. (now : Image) × (new.told ≡ Some now) × Moved area step was now)) is moves

-- what a read gave before, where it gives something after
pub told_before : (area : ℕ) (step : List ℕ → List ℕ → Type 0) (old new : DiskSeen) (now : Image) → new.told ≡ Some now → ReadMoves area step old new
    → (read : Image) × (old.told ≡ Some read) × Moved area step read now
told_before area step old new now is moves = by old.told refl
  where
    same_some : (a b : Image) → Some a ≡ Some b → a ≡ b
    same_some a b same = cc

    none_some : None ≡ Some now → (read : Image) × (old.told ≡ Some read) × Moved area step read now
    none_some clash = absurd (let no : None ≡ Some now = clash in cc)

    by : (o : Option Image) → old.told ≡ o → (read : Image) × (old.told ≡ Some read) × Moved area step read now
    by None none = none_some (sym (untold_from area step old new none moves) ∙ is)
    by (Some read) some =
        let after = moved_from area step old new read some moves in
        (read, some, subst (λ (i : Image). Moved area step read i) (same_some after.0 now (sym after.1 ∙ is)) after.2)

pub reads_of : (area : ℕ) (step : List ℕ → List ℕ → Type 0) (old new : DiskSeen)
    → (old.told ≡ None → new.told ≡ None) → ((read : Image) → old.told ≡ Some read → (now : Image) × (new.told ≡ Some now) × Moved area step read now)
    → ReadMoves area step old new
reads_of area step old new untold moved = by old.told untold moved
  where
    by : (o : Option Image) → (o ≡ None → new.told ≡ None) → ((read : Image) → o ≡ Some read → (now : Image) × (new.told ≡ Some now) × Moved area step read now)
        → MatchOption o (new.told ≡ None) (λ was. (now : Image) × (new.told ≡ Some now) × Moved area step was now)
    by None none some = none refl
    by (Some read) none some = some read refl

pub reads_as : (area : ℕ) (Q R : List ℕ → List ℕ → Type 0) (old new : DiskSeen) → ((b c : List ℕ) → Q b c → R b c) → ReadMoves area Q old new → ReadMoves area R old new
reads_as area Q R old new weaker moves = reads_of area R old new (λ none. untold_from area Q old new none moves)
    (λ read is.
    let after = moved_from area Q old new read is moves in
    (after.0, after.1, record { here = weaker _ _ after.2.here; elsewhere = after.2.elsewhere }))

pub reads_same : (area : ℕ) (old new : DiskSeen) → new.told ≡ old.told → ReadMoves area Any old new
reads_same area old new same = reads_of area Any old new (λ none. same ∙ none)
    (λ read is. (read, same ∙ is, record { here = tt; elsewhere = λ other differs. refl }))

pub reads_then : (area : ℕ) (Q R S : List ℕ → List ℕ → Type 0) (a b c : DiskSeen) → ((x y z : List ℕ) → Q x y → R y z → S x z)
    → ReadMoves area Q a b → ReadMoves area R b c → ReadMoves area S a c
reads_then area Q R S a b c both first second = reads_of area S a c
    (λ none. untold_from area R b c (untold_from area Q a b none first) second)
    (λ read is.
    let mid = moved_from area Q a b read is first in
    let end = moved_from area R b c mid.0 mid.1 second in
    (end.0, end.1, record { here = both _ _ _ mid.2.here end.2.here; elsewhere = λ other differs. end.2.elsewhere other differs ∙ mid.2.elsewhere other differs }))

pub lasts_now : (d : DiskSeen) → Lasts d d
lasts_now d = record { later = omega arith; nothing_else = λ s image le left. inl left; keeps = λ s image le left. left }

pub lasts_then : (a b c : DiskSeen) → Lasts a b → Lasts b c → Lasts a c
lasts_then a b c first second = record {
  later = omega (arith, first.later, second.later);
  nothing_else = λ s image le left. ⊎_elim (λ mid. ⊎_elim (λ old. inl old) (λ since. inr (second.keeps a.moment image first.later since)) (first.nothing_else s image le mid))
      (λ new. inr (c.earlier a.moment b.moment image first.later second.later new)) (second.nothing_else s image (omega (arith, le, first.later)) left);
  keeps = λ s image le left. second.keeps s image (omega (arith, le, first.later)) (first.keeps s image le left);
}

moved_as : (area : ℕ) (Q R : List ℕ → List ℕ → Type 0) (old new : Image) → ((c : List ℕ) → Q (area_of area old) c → R (area_of area old) c) → Moved area Q old new → Moved area R old new
moved_as area Q R old new weaker moved = record { here = weaker (area_of area new) moved.here; elsewhere = moved.elsewhere }

-- Calls after calls, where it is known what a crash might have left before each.
pub each_then : (area : ℕ) (Q R S : List ℕ → List ℕ → Type 0) (a b c : DiskSeen) → Lasts a b → Lasts b c → Each area Q a b → Each area R b c
    → ((d : Image) → a.left a.moment d → (e : List ℕ) → Q (area_of area d) e → S (area_of area d) e)
    → ((d : Image) → a.left a.moment d → (e : Image) → b.left b.moment e → Q (area_of area d) (area_of area e) → (f : List ℕ) → R (area_of area e) f → S (area_of area d) f)
    → Each area S a c
each_then area Q R S a b c before time first second alone both = λ image left. ⊎_elim (λ old. here image (first image old)) (λ new. there image (second image new)) (time.nothing_else a.moment image before.later left)
  where
    here : (image : Image) → (from : Image) × a.left a.moment from × Moved area Q from image → (from : Image) × a.left a.moment from × Moved area S from image
    here image comes = (comes.0, comes.1, moved_as area Q S comes.0 image (alone comes.0 comes.1) comes.2)

    joined : (image : Image) (mid : Image) → b.left b.moment mid → Moved area R mid image → (from : Image) × a.left a.moment from × Moved area Q from mid → (from : Image) × a.left a.moment from × Moved area S from image
    joined image mid was last comes = (
      comes.0,
      comes.1,
      record {
        here = both comes.0 comes.1 mid was comes.2.here (area_of area image) last.here;
        elsewhere = λ other differs. last.elsewhere other differs ∙ comes.2.elsewhere other differs;
      },
    )

    there : (image : Image) → (mid : Image) × b.left b.moment mid × Moved area R mid image → (from : Image) × a.left a.moment from × Moved area S from image
    there image last = joined image last.0 last.1 last.2 (first last.0 (b.earlier a.moment b.moment last.0 before.later (omega arith) last.1))

pub ran_now : (area : ℕ) (Q : List ℕ → List ℕ → Type 0) (d : DiskSeen) → ((b : List ℕ) → Q b b) → Ran area Q d d
ran_now area Q d same = record {
  time = lasts_now d;
  images = if_some (λ read. Each area Q d d) d.told (λ read is image left. (image, left, record { here = same (area_of area image); elsewhere = λ other differs. refl }));
  reads = reads_same area d d refl;
}

pub ran_as : (area : ℕ) (Q R : List ℕ → List ℕ → Type 0) (old new : DiskSeen) → ((d e : List ℕ) → Q d e → R d e) → Ran area Q old new → Ran area R old new
ran_as area Q R old new weaker ran = record {
  time = ran.time;
  images = if_some (λ read. Each area R old new) old.told (λ read is image left.
      let comes = at_some (λ read. Each area Q old new) old.told read is ran.images image left in
      (comes.0, comes.1, moved_as area Q R comes.0 image (weaker (area_of area comes.0)) comes.2));
  reads = ran.reads;
}

pub ran_then : (area : ℕ) (Q R S : List ℕ → List ℕ → Type 0) (a b c : DiskSeen) → ((d e : List ℕ) → Q d e → S d e) → ((d e f : List ℕ) → Q d e → R e f → S d f)
    → Ran area Q a b → Ran area R b c → Ran area S a c
ran_then area Q R S a b c alone both first second = record {
  time = lasts_then a b c first.time second.time;
  images = if_some (λ read. Each area S a c) a.told (λ read is.
      let mid = moved_from area Any a b read is first.reads in
      each_then area Q R S a b c first.time second.time (at_some (λ read. Each area Q a b) a.told read is first.images) (at_some (λ read. Each area R b c) b.told mid.0 mid.1 second.images)
      (λ d was e. alone (area_of area d) e) (λ d was e now q f r. both (area_of area d) (area_of area e) f q r));
  reads = reads_then area Any Any Any a b c (λ x y z p q. tt) first.reads second.reads;
}

-- Calls after calls, where what is on the disk is known before each: K is how the bytes in between come from those at first.
pub ran_known : (area : ℕ) (Q R S K : List ℕ → List ℕ → Type 0) (a b c : DiskSeen)
    → ((x y : List ℕ) → Q x y → S x y) → ((x y z : List ℕ) → K x y → R y z → S x z)
    → IsDurable area a → ReadMoves area K a b → IsDurable area b → Ran area Q a b → Ran area R b c → Ran area S a c
ran_known area Q R S K a b c alone both at_first moves then first second = record {
  time = lasts_then a b c first.time second.time;
  images = if_some (λ read. Each area S a c) a.told (λ read is.
      let mid = moved_from area K a b read is moves in
      let was_only : (d : Image) → a.left a.moment d → area_of area d ≡ area_of area read = at_some (λ read. (d : Image) → a.left a.moment d → area_of area d ≡ area_of area read) a.told read is at_first in
      let is_only : (d : Image) → b.left b.moment d → area_of area d ≡ area_of area mid.0 = at_some (λ read. (d : Image) → b.left b.moment d → area_of area d ≡ area_of area read) b.told mid.0 mid.1 then in
      each_then area Q R S a b c first.time second.time (at_some (λ read. Each area Q a b) a.told read is first.images) (at_some (λ read. Each area R b c) b.told mid.0 mid.1 second.images)
      (λ d was e. alone (area_of area d) e)
      (λ d was e now q f r. subst (λ (l : List ℕ). S l f) (sym (was_only d was)) (both (area_of area read) (area_of area mid.0) f mid.2.here (subst (λ (l : List ℕ). R l f) (is_only e now) r))));
  reads = reads_then area Any Any Any a b c (λ x y z p q. tt) first.reads second.reads;
}

-- a write
pub ran_write : (area at n : ℕ) (Q : List ℕ → List ℕ → Type 0) (old new : DiskSeen) → Lasts old new
    → IfSome old.told (λ read. Each area (Torn at n (length (area_of area read))) old new)
    → ReadMoves area (λ was. Torn at n (length was) was) old new
    → IfSome old.told (λ read. (d e : List ℕ) → Torn at n (length (area_of area read)) d e → Q d e)
    → Ran area Q old new
ran_write area at n Q old new time images part weaker = record {
  time = time;
  images = if_some (λ read. Each area Q old new) old.told (λ read is image left.
      let comes = at_some (λ read. Each area (Torn at n (length (area_of area read))) old new) old.told read is images image left in (
        comes.0,
        comes.1,
        moved_as area (Torn at n (length (area_of area read))) Q comes.0 image
            (at_some (λ read. (d e : List ℕ) → Torn at n (length (area_of area read)) d e → Q d e) old.told read is weaker (area_of area comes.0)) comes.2,
      ));
  reads = reads_as area (λ was. Torn at n (length was) was) Any old new (λ b c torn. tt) part;
}

-- a call that changes nothing
pub ran_same : (area : ℕ) (old new : DiskSeen) → Lasts old new → IfSome old.told (λ read. Each area Same old new) → new.told ≡ old.told → Ran area Same old new
ran_same area old new time images same = record { time = time; images = images; reads = reads_same area old new same }

-- a cut
pub ran_cut : (area n : ℕ) (old new : DiskSeen) → Lasts old new → IfSome old.told (λ read. Each area (Cut n) old new) → ReadMoves area (Cut n) old new → Ran area (Cut n) old new
ran_cut area n old new time images part = record { time = time; images = images; reads = reads_as area (Cut n) Any old new (λ b c cut. tt) part }

-- what is durable stays so, where nothing changes
pub durable_stays : (area : ℕ) (old new : DiskSeen) → new.told ≡ old.told → Ran area Same old new → IsDurable area old → IsDurable area new
durable_stays area old new same ran durable = if_some (λ read. (image : Image) → new.left new.moment image → area_of area image ≡ area_of area read) new.told here
  where
    here : (read : Image) → new.told ≡ Some read → (image : Image) → new.left new.moment image → area_of area image ≡ area_of area read
    here read is image now =
        let was : old.told ≡ Some read = sym same ∙ is in
        let comes = at_some (λ read. Each area Same old new) old.told read was ran.images image (new.earlier old.moment new.moment image ran.time.later (omega arith) now) in
        comes.2.here ∙ at_some (λ read. (image : Image) → old.left old.moment image → area_of area image ≡ area_of area read) old.told read was durable comes.0 comes.1

-- and so does what is durable of the other area, whatever the calls do to theirs
pub durable_elsewhere : (area other : ℕ) (step : List ℕ → List ℕ → Type 0) (old new : DiskSeen) → other ≢ area → Ran area step old new → IsDurable other old → IsDurable other new
durable_elsewhere area other step old new differs ran durable = if_some (λ read. (image : Image) → new.left new.moment image → area_of other image ≡ area_of other read) new.told here
  where
    here : (read : Image) → new.told ≡ Some read → (image : Image) → new.left new.moment image → area_of other image ≡ area_of other read
    here read is image now =
        let before = told_before area Any old new read is ran.reads in
        let comes = at_some (λ read. Each area step old new) old.told before.0 before.1 ran.images image (new.earlier old.moment new.moment image ran.time.later (omega arith) now) in
        comes.2.elsewhere other differs ∙ at_some (λ read. (image : Image) → old.left old.moment image → area_of other image ≡ area_of other read) old.told before.0 before.1 durable comes.0 comes.1
        ∙ sym (before.2.elsewhere other differs)
