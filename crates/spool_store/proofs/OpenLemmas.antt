-- What opening a spool does to it.
use Rattle.std.proofs.Common.{◌≡◌, ◌⊎◌, inl, ⊎_elim, ℕ, ◌+◌, ◌%◌, ◌≤◌, ◌<◌, ◌^◌, List, [], length, Bool, true, false, eqb, cond, Option, Some, None, IfSome, MatchOption, Result, OnOk, refl, sym, ◌∙◌, subst, ap, arith}
use Rattle.std.specs.Bool.{⊤}
use Rattle.kumo_disk.specs.Disk.{Image, area_of, DiskSeen, Moved, Each, ReadMoves, IsDurable, Any}
use Rattle.kumo_disk.specs.Calls.{Ran}
use Rattle.kumo_disk.proofs.Runs.{at_some, if_some, told_before, ran_as, durable_elsewhere}
use Rattle.kumo_disk.proofs.Known.{ran_by, left_any, left_durable, told_after}
use Rattle.spool_log.specs.Area.{Form, IsVersion, IsForm}
use Rattle.spool_log.specs.Head.{start_of, Clears}
use Rattle.spool_log.specs.Log.{IsFound, IsReady, Creates}
use Rattle.spool_log.specs.declared.head.Header.{Header}
use Rattle.spool_log.specs.declared.head.Start.{Start}
use Rattle.spool_log.specs.declared.head.Start.TheVariants as start
use Rattle.spool_log.specs.declared.log.Log.{Log}
use Rattle.spool_log.specs.declared.log.Found.{Found}
use Rattle.spool_log.specs.declared.log.Found.TheVariants as found
use Rattle.spool_log.proofs.Bytes.{on_ok_as}
use Rattle.spool_format.specs.declared.kept.Kept.{Kept}
use Rattle.spool_index.specs.declared.place.Place.{Place}
use Rattle.spool_store.specs.Content.{Item, places_of, kept_of}
use Rattle.spool_store.specs.Reading.{Reading, Sound, Broken, Force, Nothing, InForce, Faulty, by_generation, force_of, force_in, by_force, Reads, Recovers, HasContent}
use Rattle.spool_store.specs.Crash.{IsOnDisk, Since, StandsForRead}
use Rattle.spool_store.specs.Store.{IsOpenFault}
use Rattle.spool_store.specs.declared.faults.OpenFault.{OpenFault}
use Rattle.spool_store.specs.declared.faults.OpenFault.TheVariants as open_fault
use Rattle.spool_store.specs.Standing.{Standing, Stands}
use Rattle.spool_store.specs.inside.Opening.{IsStill, IsNoDamage, IsOfDisk, IsLogOf, IsWrongHeader, start_found, first_header, Begins}
use Rattle.spool_store.specs.inside.Replay.{IsReplayed, BreaksAt, AllStandThere, AreRead}
use Rattle.spool_store.proofs.Forces.{start_form, reads_walk, standing_reads}
use Rattle.spool_store.proofs.Payloads.{payloads_stand}
use Rattle.spool_store.proofs.StillLemmas.{durable_on_disk, on_disk_both, on_disk_still}

-- an area that is emptied, and made a log
clears_begin : (x y : List ℕ) → Clears x y → Begins x y
clears_begin x y clears = λ blank. ⊎_elim (λ same. inl (ap start_of same ∙ blank)) (λ is. inl is) clears

pub begin_first : (a b : DiskSeen) → Ran 0 Clears a b → Ran 0 Begins a b
begin_first a b ran = ran_as 0 Clears Begins a b clears_begin ran

pub begin_ran : (a b c : DiskSeen) → IsDurable 0 b → IfSome b.told (λ read. length (area_of 0 read) ≤ 1) → Ran 0 Clears a b → Ran 0 (Creates first_header) b c → Ran 0 Begins a c
begin_ran a b c durable short first second = ran_by 0 (λ bytes. ⊤) (λ bytes. length bytes ≤ 1) Clears (Creates first_header) Begins a b c
    (left_any 0 a) (left_durable 0 (λ bytes. length bytes ≤ 1) b durable short)
    (λ x y was clears. clears_begin x y clears) (λ x y z was is clears creates. λ blank. creates is) first second

pub begin_form : {T E : Type 0} (r : Result T E) (b c : DiskSeen) → OnOk r (ReadMoves 0 (λ old new. Form first_header [] 16 new) b c) → OnOk r (IfSome c.told (λ read. Form first_header [] 16 (area_of 0 read)))
begin_form r b c form = on_ok_as r (λ moves. told_after 0 (λ old new. Form first_header [] 16 new) (λ bytes. Form first_header [] 16 bytes) b c (λ read is bytes form. form) moves) form

-- no area is in force where both are blank
faulty_nothing : (n at : ℕ) → Faulty n at ≡ Nothing → ⊥
faulty_nothing n at is = cc

in_force_nothing : (n : ℕ) → InForce n ≡ Nothing → ⊥
in_force_nothing n is = cc

generation_something : (g h : ℕ) → by_generation g h ≡ Nothing → ⊥
generation_something g h is = by (eqb ((g + 1) % 2 ^ 64) h) (eqb ((h + 1) % 2 ^ 64) g) is
  where
    by : (t u : Bool) → cond t (InForce 1) (cond u (InForce 0) (Faulty 1 8)) ≡ Nothing → ⊥
    by true u is = in_force_nothing 1 is
    by false true is = in_force_nothing 0 is
    by false false is = faulty_nothing 1 8 is

both_blank : (s t : Start) → force_of s t ≡ Nothing → (s ≡ start.Blank) × (t ≡ start.Blank)
both_blank (start.Wrong at) t is = absurd (faulty_nothing 0 at is)
both_blank start.Blank start.Blank is = (refl, refl)
both_blank start.Blank (start.Wrong at) is = absurd (faulty_nothing 1 at is)
both_blank start.Blank (start.Headed h) is = absurd (in_force_nothing 1 is)
both_blank (start.Headed g) start.Blank is = absurd (in_force_nothing 0 is)
both_blank (start.Headed g) (start.Wrong at) is = absurd (faulty_nothing 1 at is)
both_blank (start.Headed g) (start.Headed h) is = absurd (generation_something g.generation h.generation is)

blank_reads : (image : Image) (r : Reading) → force_in image ≡ Nothing → Reads image r → r ≡ Sound []
blank_reads image r is reads = subst (λ (f : Force). by_force f image r) is reads

nothing_reads : (image : Image) → force_in image ≡ Nothing → Reads image (Sound [])
nothing_reads image is = subst (λ (f : Force). by_force f image (Sound [])) (sym is) refl

force_from : (image : Image) (s t : Start) → start_of image.first ≡ s → start_of image.second ≡ t → force_in image ≡ force_of s t
force_from image s t first second = ap (λ (k : Start). force_of k (start_of image.second)) first ∙ ap (λ (k : Start). force_of s k) second

-- the first log, beside a blank area
pub first_stands : (image : Image) → Form first_header [] 16 image.first → start_of image.second ≡ start.Blank → Standing 0 first_header 16 [] image
first_stands image form second = record {
  in_force = force_from image (start.Headed first_header) start.Blank (start_form first_header [] 16 image.first form) second;
  rs = [];
  form = form;
  plays = refl;
}

recovers_none : (image : Image) → Reads image (Sound []) → Recovers image []
recovers_none image reads = record { items = []; reads = reads; same = refl }

begins_reads : (read image : Image) → force_in read ≡ Nothing → Moved 0 Begins read image → Reads image (Sound [])
begins_reads read image is moved =
    let blank = both_blank (start_of read.first) (start_of read.second) is in
    let second : start_of image.second ≡ start.Blank = ap start_of (moved.elsewhere 1 (λ e. absurd (omega (arith, e)))) ∙ blank.1 in
    ⊎_elim (λ first. nothing_reads image (force_from image start.Blank start.Blank first second))
    (λ form. standing_reads 0 16 first_header [] image (omega arith) (first_stands image form second)) (moved.here blank.0)

sound_none : (items : List Item) → Sound items ≡ Sound [] → items ≡ []
sound_none items is = cc

broken_sound : (n at : ℕ) (items : List Item) → Broken n at ≡ Sound items → ⊥
broken_sound n at items is = cc

begins_stands : (read image : Image) → force_in read ≡ Nothing → Moved 0 Begins read image → StandsForRead read image
begins_stands read image is moved = record {
  sound = λ kept recovers. record {
    items = [];
    reads = begins_reads read image is moved;
    same = recovers.same ∙ ap (λ (l : List Item). kept_of l) (sound_none recovers.items (blank_reads read (Sound recovers.items) is recovers.reads));
  };
  broken = λ n at reads. absurd (broken_sound n at [] (blank_reads read (Broken n at) is reads));
}

pub stands_for_itself : (image : Image) → StandsForRead image image
stands_for_itself image = record { sound = λ kept recovers. recovers; broken = λ n at reads. reads }

-- both areas were blank
module _ (a b : DiskSeen) (on_disk : IsOnDisk a) (blank : IfSome a.told (λ read. force_in read ≡ Nothing)) where
  pub fresh_answer : (kept : List Kept) → kept ≡ [] → IfSome a.told (λ read. Recovers read kept)
  fresh_answer kept none = if_some (λ read. Recovers read kept) a.told (λ read is.
      subst (λ (l : List Kept). Recovers read l) (sym none) (recovers_none read (nothing_reads read (at_some (λ read. force_in read ≡ Nothing) a.told read is blank))))

  module _ (ran : Ran 0 Begins a b) where
    pub fresh_since : Since StandsForRead a b
    fresh_since = record {
      time = ran.time;
      images = if_some (λ read. (image : Image) → b.left a.moment image → StandsForRead read image) a.told (λ read is image left.
          let comes = at_some (λ read. Each 0 Begins a b) a.told read is ran.images image left in
          let same : comes.0 ≡ read = at_some (λ read. (image : Image) → a.left a.moment image → image ≡ read) a.told read is on_disk comes.0 comes.1 in
          begins_stands read image (at_some (λ read. force_in read ≡ Nothing) a.told read is blank) (subst (λ (i : Image). Moved 0 Begins i image) same comes.2));
      still = told a.told ran.reads;
    }
      where
        told : (o : Option Image) → MatchOption o (b.told ≡ None) (λ was. (now : Image) × (b.told ≡ Some now) × Moved 0 Any was now) → MatchOption o (b.told ≡ None) (λ read. (now : Image) × (b.told ≡ Some now))
        told None is = is
        told (Some read) is = (is.0, is.1)

    module _ (form : IfSome b.told (λ read. Form first_header [] 16 (area_of 0 read))) where
      standing : (read : Image) → b.told ≡ Some read → Standing 0 first_header 16 [] read
      standing read is =
          let before = told_before 0 Any a b read is ran.reads in
          let both = both_blank (start_of before.0.first) (start_of before.0.second) (at_some (λ read. force_in read ≡ Nothing) a.told before.0 before.1 blank) in
          first_stands read (at_some (λ read. Form first_header [] 16 (area_of 0 read)) b.told read is form)
          (ap start_of (before.2.elsewhere 1 (λ e. absurd (omega (arith, e)))) ∙ both.1)

      pub fresh_content : (kept : List Kept) → kept ≡ [] → HasContent kept b
      fresh_content kept none = if_some (λ read. Recovers read kept) b.told (λ read is.
          subst (λ (l : List Kept). Recovers read l) (sym none) (recovers_none read (standing_reads 0 16 first_header [] read (omega arith) (standing read is))))

      pub fresh_stands : (log : Log) (places : List Place) → log ≡ record { area = 0; header = first_header; end = 16 } → places ≡ [] → IsReady log b → Stands log places b
      fresh_stands log places same none ready = subst (λ (l : Log). Stands l places b) (sym same) (record {
        ready = subst (λ (l : Log). IsReady l b) same ready;
        on_disk = on_disk_both b (subst (λ (l : Log). IsDurable l.area b) same ready.durable)
            (durable_elsewhere 0 1 Begins a b (λ e. absurd (omega (arith, e))) ran (durable_on_disk 1 a on_disk));
        holds = if_some (λ read. (items : List Item) × Standing 0 first_header 16 items read × (places ≡ places_of items)) b.told (λ read is. ([], standing read is, none));
      })

-- an area is in force
module _ (log : Log) (a : DiskSeen) (lt : log.area < 2) (in_force : IfSome a.told (λ read. force_in read ≡ InForce log.area)) where
  pub breaks_open : (e : OpenFault) → IfSome a.told (λ read. BreaksAt log.area (area_of log.area read) e) → IfSome a.told (λ read. IsOpenFault read e)
  breaks_open e breaks = if_some (λ read. IsOpenFault read e) a.told (λ read is.
      by read (at_some (λ read. force_in read ≡ InForce log.area) a.told read is in_force) e (at_some (λ read. BreaksAt log.area (area_of log.area read) e) a.told read is breaks))
    where
      by : (read : Image) → force_in read ≡ InForce log.area → (e : OpenFault) → BreaksAt log.area (area_of log.area read) e → IsOpenFault read e
      by read force open_fault.DiskFault breaks = tt
      by read force (open_fault.Damaged m at) breaks = reads_walk log.area read (Broken m at) lt force breaks
      by read force (open_fault.TooLarge pending) breaks = absurd breaks
      by read force open_fault.Memory breaks = tt

  pub undamaged_open : (e : OpenFault) (b : DiskSeen) → b.told ≡ a.told → IfSome b.told (λ read. IsNoDamage e) → IfSome a.told (λ read. IsOpenFault read e)
  undamaged_open e b same sound = if_some (λ read. IsOpenFault read e) a.told (λ read is. by read e (at_some (λ read. IsNoDamage e) b.told read (same ∙ is) sound))
    where
      by : (read : Image) (e : OpenFault) → IsNoDamage e → IsOpenFault read e
      by read open_fault.DiskFault sound = tt
      by read (open_fault.Damaged m at) sound = absurd sound
      by read (open_fault.TooLarge pending) sound = absurd sound
      by read open_fault.Memory sound = tt

  module _ (end : ℕ) (places : List Place) (replayed : IfSome a.told (λ read. IsReplayed log.header end places (area_of log.area read))) where
    pub resume_places : (b : DiskSeen) → b.told ≡ a.told → IfSome b.told (λ read. AllStandThere (area_of log.area read) places)
    resume_places b same = if_some (λ read. AllStandThere (area_of log.area read) places) b.told (λ read is.
        let r : IsReplayed log.header end places (area_of log.area read) = at_some (λ read. IsReplayed log.header end places (area_of log.area read)) a.told read (sym same ∙ is) replayed in
        (r.items, r.same, payloads_stand log.header r.rs end (area_of log.area read) r.items r.form r.plays))

    standing_now : (read : Image) → a.told ≡ Some read → (r : IsReplayed log.header end places (area_of log.area read)) → Standing log.area log.header end r.items read
    standing_now read is r = record { in_force = at_some (λ read. force_in read ≡ InForce log.area) a.told read is in_force; rs = r.rs; form = r.form; plays = r.plays }

    pub resume_answer : (kept : List Kept) (b : DiskSeen) → b.told ≡ a.told → IfSome b.told (λ read. AreRead (area_of log.area read) places kept) → IfSome a.told (λ read. Recovers read kept)
    resume_answer kept b same are = if_some (λ read. Recovers read kept) a.told (λ read is.
        let r : IsReplayed log.header end places (area_of log.area read) = at_some (λ read. IsReplayed log.header end places (area_of log.area read)) a.told read is replayed in
        record {
          items = r.items;
          reads = standing_reads log.area end log.header r.items read lt (standing_now read is r);
          same = at_some (λ read. AreRead (area_of log.area read) places kept) b.told read (same ∙ is) are r.items r.same (payloads_stand log.header r.rs end (area_of log.area read) r.items r.form r.plays);
        })

    at_log : (b : DiskSeen) → IsOnDisk b → b.told ≡ a.told → end + 1 < 2 ^ 63 → Stands (record { area = log.area; header = log.header; end = end }) places b
    at_log b on_disk same low = record {
      ready = record {
        area = lt;
        low = low;
        form = if_some (λ read. IsForm log.header end (area_of log.area read)) b.told (λ read is.
            let r : IsReplayed log.header end places (area_of log.area read) = at_some (λ read. IsReplayed log.header end places (area_of log.area read)) a.told read (sym same ∙ is) replayed in
            (r.rs, r.form));
        durable = durable_on_disk log.area b on_disk;
      };
      on_disk = on_disk;
      holds = if_some (λ read. (items : List Item) × Standing log.area log.header end items read × (places ≡ places_of items)) b.told (λ read is.
          let r : IsReplayed log.header end places (area_of log.area read) = at_some (λ read. IsReplayed log.header end places (area_of log.area read)) a.told read (sym same ∙ is) replayed in
          (r.items, standing_now read (sym same ∙ is) r, r.same));
    }

    pub resume_stands : (area : ℕ) (header : Header) (b : DiskSeen) → area ≡ log.area → header ≡ log.header → IsOnDisk a → IsStill a b → end + 1 < 2 ^ 63
        → Stands (record { area = area; header = header; end = end }) places b
    resume_stands area header b one two on_disk still low =
        subst (λ (k : ℕ). Stands (record { area = k; header = header; end = end }) places b) (sym one)
        (subst (λ (h : Header). Stands (record { area = log.area; header = h; end = end }) places b) (sym two)
        (at_log b (on_disk_still a b on_disk still) still.same low))

  pub resume_content : (kept : List Kept) (b : DiskSeen) → b.told ≡ a.told → IfSome a.told (λ read. Recovers read kept) → HasContent kept b
  resume_content kept b same recovers = subst (λ (o : Option Image). IfSome o (λ read. Recovers read kept)) (sym same) recovers

-- the headers of both areas
found_start : (area : ℕ) (bytes : List ℕ) (f : Found) → IsFound area bytes f → start_of bytes ≡ start_found f
found_start area bytes found.Blank is = is
found_start area bytes (found.Open log) is = is.0

pub force_told : (first second : Found) (f : Force) (a b c : DiskSeen) → b.told ≡ a.told → c.told ≡ b.told → IfSome a.told (λ read. IsFound 0 (area_of 0 read) first) → IfSome b.told (λ read. IsFound 1 (area_of 1 read) second)
    → force_of (start_found first) (start_found second) ≡ f → IfSome c.told (λ read. force_in read ≡ f)
force_told first second f a b c one two is_first is_second force = if_some (λ read. force_in read ≡ f) c.told (λ read is.
    let mid : b.told ≡ Some read = sym two ∙ is in
    force_from read (start_found first) (start_found second)
    (found_start 0 read.first first (at_some (λ read. IsFound 0 (area_of 0 read) first) a.told read (sym one ∙ mid) is_first))
    (found_start 1 read.second second (at_some (λ read. IsFound 1 (area_of 1 read) second) b.told read mid is_second)) ∙ force)

-- the chosen log is one that was found
module _ (first second : Found) (log : Log) (is_first : IsLogOf 0 first) (is_second : IsLogOf 1 second) (either : (first ≡ found.Open log) ⊎ (second ≡ found.Open log)) where
  pub chosen_of : (log.area < 2) × IsVersion log.header.version
  chosen_of = ⊎_elim (λ is. zero_of (subst (λ (f : Found). IsLogOf 0 f) is is_first)) (λ is. one_of (subst (λ (f : Found). IsLogOf 1 f) is is_second)) either
    where
      zero_of : IsLogOf 0 (found.Open log) → (log.area < 2) × IsVersion log.header.version
      zero_of of = (omega (arith, of.0), of.1)

      one_of : IsLogOf 1 (found.Open log) → (log.area < 2) × IsVersion log.header.version
      one_of of = (omega (arith, of.0), of.1)

  pub chosen_found : (a b c : DiskSeen) → b.told ≡ a.told → c.told ≡ b.told → IfSome a.told (λ read. IsFound 0 (area_of 0 read) first) → IfSome b.told (λ read. IsFound 1 (area_of 1 read) second)
      → IfSome c.told (λ read. IsFound log.area (area_of log.area read) (found.Open log))
  chosen_found a b c one two at_first at_second = if_some (λ read. IsFound log.area (area_of log.area read) (found.Open log)) c.told (λ read is.
      let mid : b.told ≡ Some read = sym two ∙ is in
      let zero : IsFound 0 (area_of 0 read) first = at_some (λ read. IsFound 0 (area_of 0 read) first) a.told read (sym one ∙ mid) at_first in
      let other : IsFound 1 (area_of 1 read) second = at_some (λ read. IsFound 1 (area_of 1 read) second) b.told read mid at_second in
      ⊎_elim
      (λ same. at 0 read (area_is 0 first same is_first) (subst (λ (f : Found). IsFound 0 (area_of 0 read) f) same zero))
      (λ same. at 1 read (area_is 1 second same is_second) (subst (λ (f : Found). IsFound 1 (area_of 1 read) f) same other)) either)
    where
      area_is : (n : ℕ) (f : Found) → f ≡ found.Open log → IsLogOf n f → log.area ≡ n
      area_is n f same of = let here : IsLogOf n (found.Open log) = subst (λ (f : Found). IsLogOf n f) same of in here.0

      at : (n : ℕ) (read : Image) → log.area ≡ n → IsFound n (area_of n read) (found.Open log) → IsFound log.area (area_of log.area read) (found.Open log)
      at n read is holds = subst (λ (k : ℕ). IsFound k (area_of k read) (found.Open log)) (sym is) holds

-- a header is wrong, or no generation follows the other
reads_faulty : (image : Image) (n at : ℕ) → force_in image ≡ Faulty n at → Reads image (Broken n at)
reads_faulty image n at is = subst (λ (f : Force). by_force f image (Broken n at)) (sym is) refl

pub wrong_first : (e : OpenFault) (a : DiskSeen) → IfSome a.told (λ read. IsWrongHeader 0 (area_of 0 read) e) → IfSome a.told (λ read. IsOpenFault read e)
wrong_first e a wrong = if_some (λ read. IsOpenFault read e) a.told (λ read is. by read e (at_some (λ read. IsWrongHeader 0 (area_of 0 read) e) a.told read is wrong))
  where
    by : (read : Image) (e : OpenFault) → IsWrongHeader 0 (area_of 0 read) e → IsOpenFault read e
    by read open_fault.DiskFault wrong = tt
    by read (open_fault.Damaged m at) wrong = subst (λ (k : ℕ). Reads read (Broken k at)) (sym wrong.0)
        (reads_faulty read 0 at (ap (λ (s : Start). force_of s (start_of read.second)) wrong.1))
    by read (open_fault.TooLarge pending) wrong = absurd wrong
    by read open_fault.Memory wrong = tt

pub wrong_second : (first : Found) (e : OpenFault) (a b : DiskSeen) → b.told ≡ a.told → IfSome a.told (λ read. IsFound 0 (area_of 0 read) first) → IfSome b.told (λ read. IsWrongHeader 1 (area_of 1 read) e) → IfSome a.told (λ read. IsOpenFault read e)
wrong_second first e a b same is_first wrong = if_some (λ read. IsOpenFault read e) a.told (λ read is.
    by read e (found_start 0 read.first first (at_some (λ read. IsFound 0 (area_of 0 read) first) a.told read is is_first)) (at_some (λ read. IsWrongHeader 1 (area_of 1 read) e) b.told read (same ∙ is) wrong))
  where
    second_wrong : (f : Found) (at : ℕ) → force_of (start_found f) (start.Wrong at) ≡ Faulty 1 at
    second_wrong found.Blank at = refl
    second_wrong (found.Open log) at = refl

    by : (read : Image) (e : OpenFault) → start_of read.first ≡ start_found first → IsWrongHeader 1 (area_of 1 read) e → IsOpenFault read e
    by read open_fault.DiskFault one wrong = tt
    by read (open_fault.Damaged m at) one wrong = subst (λ (k : ℕ). Reads read (Broken k at)) (sym wrong.0)
        (reads_faulty read 1 at (force_from read (start_found first) (start.Wrong at) one wrong.1 ∙ second_wrong first at))
    by read (open_fault.TooLarge pending) one wrong = absurd wrong
    by read open_fault.Memory one wrong = tt

pub apart_open : (a c : DiskSeen) → c.told ≡ a.told → IfSome c.told (λ read. force_in read ≡ Faulty 1 8) → IfSome a.told (λ read. Reads read (Broken 1 8))
apart_open a c same force = if_some (λ read. Reads read (Broken 1 8)) a.told (λ read is. reads_faulty read 1 8 (at_some (λ read. force_in read ≡ Faulty 1 8) c.told read (same ∙ is) force))

-- after a disk's own calls, by what is told
pub told_as : (P : Image → Type 0) (a b : DiskSeen) → b.told ≡ a.told → IfSome b.told P → IfSome a.told P
told_as P a b same holds = subst (λ (o : Option Image). IfSome o P) same holds

pub of_disk_open : (e : OpenFault) (a : DiskSeen) → IsOfDisk e → IfSome a.told (λ read. IsOpenFault read e)
of_disk_open e a only = if_some (λ read. IsOpenFault read e) a.told (λ read is. by read e only)
  where
    by : (read : Image) (e : OpenFault) → IsOfDisk e → IsOpenFault read e
    by read open_fault.DiskFault only = tt
    by read (open_fault.Damaged m at) only = absurd only
    by read (open_fault.TooLarge pending) only = absurd only
    by read open_fault.Memory only = absurd only
