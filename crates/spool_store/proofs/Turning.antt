-- Writing anew into the area that is not in force: what a crash may leave, and what stands in the end.
use Rattle.std.proofs.Common.{◌≡◌, ◌≢◌, ◌⊎◌, inl, inr, ⊎_elim, ℕ, zero, suc, ◌+◌, ◌-◌, ◌%◌, ◌≤◌, ◌<◌, ◌^◌, List, [], length, Option, Some, None, IfSome, MatchOption, refl, sym, ◌∙◌, subst, ap, arith}
use Rattle.std.specs.Bool.{⊤}
use Rattle.std.proofs.lemmas.Bool.{cases_eq}
use Rattle.kumo_disk.specs.Disk.{Image, area_of, DiskSeen, Moved, Each, IsDurable, Any}
use Rattle.kumo_disk.specs.Calls.{Ran}
use Rattle.kumo_disk.proofs.Runs.{at_some, if_some, moved_from, untold_from, told_before, durable_elsewhere, ran_now}
use Rattle.kumo_disk.proofs.Known.{AllLeft, ran_by, left_durable, left_any}
use Rattle.spool_log.specs.Area.{LogRecord, Form}
use Rattle.spool_log.specs.Head.{start_of, Clears, StartsShut}
use Rattle.spool_log.specs.Log.{IsReady, IsDraft, HasDraft, BeginsBlank, StaysShut, Opens}
use Rattle.spool_log.specs.declared.head.Header.{Header}
use Rattle.spool_log.specs.declared.head.Start.{Start}
use Rattle.spool_log.specs.declared.head.Start.TheVariants.{Blank, Headed}
use Rattle.spool_log.specs.declared.draft.Draft.{Draft}
use Rattle.spool_log.specs.declared.log.Log.{Log}
use Rattle.spool_log.proofs.Forms.{blank_shut}
use Rattle.spool_format.specs.declared.kept.Kept.{Kept}
use Rattle.spool_index.specs.declared.place.Place.{Place}
use Rattle.spool_index.specs.Places.{laid_out}
use Rattle.spool_store.specs.Content.{Item, kept_of, places_of, played}
use Rattle.spool_store.specs.Reading.{Sound, Broken, InForce, by_generation, force_of, force_in, Recovers, HasContent}
use Rattle.spool_store.specs.Crash.{IsOnDisk, Since, StandsForRead}
use Rattle.spool_store.specs.Standing.{Standing, Stands}
use Rattle.spool_store.specs.inside.Rewriting.{copies_of, AreWithin}
use Rattle.spool_store.proofs.Unique.{reads_same, kept_same}
use Rattle.spool_store.proofs.Forces.{start_form, standing_reads, next_in_force, next_in_force_first}
use Rattle.spool_store.proofs.Pieces.{AreGood, good_form}
use Rattle.spool_store.proofs.Relaid.{relaid, kept_relaid, places_relaid, are_within, all_played}

-- the area is as it was, or blank, or a log of these records
abbrev pub Turns : Header → List LogRecord → ℕ → List ℕ → List ℕ → Type 0
Turns h rs end old new = Clears old new ⊎ Form h rs end new

-- the other area
pub other_below : (area : ℕ) → area < 2 → 1 - area < 2
other_below area lt = omega (arith, lt)

pub other_apart : (area : ℕ) → area < 2 → 1 - area ≢ area
other_apart area lt = λ is. absurd (omega (arith, is, lt))

-- the calls on the other area, one after the other
pub clears_begin : (o : ℕ) (a b c : DiskSeen) → IfSome b.told (λ read. length (area_of o read) ≤ 1) → IsDurable o b → Ran o Clears a b → Ran o BeginsBlank b c → Ran o Clears a c
clears_begin o a b c short durable first second = ran_by o (λ bytes. ⊤) (λ bytes. length bytes ≤ 1) Clears BeginsBlank Clears a b c (left_any o a) (left_durable o (λ bytes. length bytes ≤ 1) b durable short)
    (λ x y was clears. clears) (λ x y z was is clears begins. inr (begins is)) first second

pub clears_stays : (o : ℕ) (a b c : DiskSeen) → AllLeft o StartsShut b → Ran o Clears a b → Ran o StaysShut b c → Ran o Clears a c
clears_stays o a b c shut first second = ran_by o (λ bytes. ⊤) StartsShut Clears StaysShut Clears a b c (left_any o a) shut
    (λ x y was clears. clears) (λ x y z was is clears stays. inr (blank_shut z (stays is))) first second

pub clears_opens : (o : ℕ) (h : Header) (rs : List LogRecord) (end : ℕ) (a b c : DiskSeen) → AllLeft o StartsShut b → Ran o Clears a b → Ran o (Opens h rs end) b c → Ran o (Turns h rs end) a c
clears_opens o h rs end a b c shut first second = ran_by o (λ bytes. ⊤) StartsShut Clears (Opens h rs end) (Turns h rs end) a b c (left_any o a) shut
    (λ x y was clears. inl clears) (λ x y z was is clears opens. ⊎_elim (λ s. inl (inr (blank_shut z s))) (λ form. inr form) (opens is)) first second

-- until the copying ends the other area is as it was, or blank
pub copied_ran : (o : ℕ) (first : Draft) (rs : List LogRecord) (a b c d : DiskSeen) → IfSome b.told (λ read. length (area_of o read) ≤ 1) → IsDurable o b → Ran o Clears a b → Ran o BeginsBlank b c
    → first.area ≡ o → IsDraft first rs c → Ran first.area StaysShut c d → Ran o Clears a d
copied_ran o first rs a b c d short durable cleared begun here is copied = clears_stays o a c d (subst (λ (k : ℕ). AllLeft k StartsShut c) here is.shut)
    (clears_begin o a b c short durable cleared begun) (subst (λ (k : ℕ). Ran k StaysShut c d) here copied)

-- and then it may be the log
pub opened_ran : (o : ℕ) (draft : Draft) (a d e : DiskSeen) → draft.area ≡ o → Ran o Clears a d → ((rs : List LogRecord) → IsDraft draft rs d → Ran draft.area (Opens draft.header rs draft.end) d e)
    → (rs : List LogRecord) → IsDraft draft rs d → Ran o (Turns draft.header rs draft.end) a e
opened_ran o draft a d e here copied opened rs is = clears_opens o draft.header rs draft.end a d e (subst (λ (k : ℕ). AllLeft k StartsShut d) here is.shut) copied
    (subst (λ (k : ℕ). Ran k (Opens draft.header rs draft.end) d e) here (opened rs is))

-- what is so of an area under calls on the other one
pub carried : (area o : ℕ) (step : List ℕ → List ℕ → Type 0) (P : List ℕ → Type 0) (a b : DiskSeen) → area ≢ o → Ran o step a b → IfSome a.told (λ read. P (area_of area read)) → IfSome b.told (λ read. P (area_of area read))
carried area o step P a b differs ran holds = if_some (λ read. P (area_of area read)) b.told (λ now told.
    let before = told_before o Any a b now told ran.reads in
    subst P (sym (before.2.elsewhere area differs)) (at_some (λ read. P (area_of area read)) a.told before.0 before.1 holds))

pub carried_back : (area o : ℕ) (step : List ℕ → List ℕ → Type 0) (P : List ℕ → Type 0) (a b : DiskSeen) → area ≢ o → Ran o step a b → IfSome b.told (λ read. P (area_of area read)) → IfSome a.told (λ read. P (area_of area read))
carried_back area o step P a b differs ran holds = if_some (λ read. P (area_of area read)) a.told (λ read told.
    let after = moved_from o Any a b read told ran.reads in
    subst P (after.2.elsewhere area differs) (at_some (λ read. P (area_of area read)) b.told after.0 after.1 holds))

-- which area is in force
blank_force : (area o : ℕ) (image : Image) (h : Header) → area < 2 → o < 2 → o ≢ area → start_of (area_of area image) ≡ Headed h → start_of (area_of o image) ≡ Blank → force_in image ≡ InForce area
blank_force zero zero image h lt below apart one two = absurd (apart refl)
blank_force zero (suc zero) image h lt below apart one two = ap (λ (s : Start). force_of s (start_of image.second)) one ∙ ap (λ (s : Start). force_of (Headed h) s) two
blank_force (suc zero) zero image h lt below apart one two = ap (λ (s : Start). force_of (start_of image.first) s) one ∙ ap (λ (s : Start). force_of s (Headed h)) two
blank_force (suc zero) (suc zero) image h lt below apart one two = absurd (apart refl)
blank_force (suc (suc n)) o image h lt below apart one two = absurd (omega (arith, lt))
blank_force zero (suc (suc n)) image h lt below apart one two = absurd (omega (arith, below))
blank_force (suc zero) (suc (suc n)) image h lt below apart one two = absurd (omega (arith, below))

next_force : (area o : ℕ) (image : Image) (g h : Header) → area < 2 → o < 2 → o ≢ area → start_of (area_of area image) ≡ Headed g → start_of (area_of o image) ≡ Headed h
    → g.generation < 2 ^ 64 → h.generation ≡ (g.generation + 1) % 2 ^ 64 → force_in image ≡ InForce o
next_force zero zero image g h lt below apart one two fits next = absurd (apart refl)
next_force zero (suc zero) image g h lt below apart one two fits next =
    ap (λ (s : Start). force_of s (start_of image.second)) one ∙ ap (λ (s : Start). force_of (Headed g) s) two ∙ ap (λ (k : ℕ). by_generation g.generation k) next ∙ next_in_force g.generation
next_force (suc zero) zero image g h lt below apart one two fits next =
    ap (λ (s : Start). force_of (start_of image.first) s) one ∙ ap (λ (s : Start). force_of s (Headed g)) two ∙ ap (λ (k : ℕ). by_generation k g.generation) next
    ∙ next_in_force_first g.generation fits
next_force (suc zero) (suc zero) image g h lt below apart one two fits next = absurd (apart refl)
next_force (suc (suc n)) o image g h lt below apart one two fits next = absurd (omega (arith, lt))
next_force zero (suc (suc n)) image g h lt below apart one two fits next = absurd (omega (arith, below))
next_force (suc zero) (suc (suc n)) image g h lt below apart one two fits next = absurd (omega (arith, below))

same_force : (image read : Image) → ((n : ℕ) → area_of n image ≡ area_of n read) → force_in image ≡ force_in read
same_force image read same = ap (λ (l : List ℕ). force_of (start_of l) (start_of image.second)) (same 0) ∙ ap (λ (l : List ℕ). force_of (start_of read.first) (start_of l)) (same 1)

abbrev pair : List ℕ → List ℕ → Image
pair first second = record { first = first; second = second }

same_image : (image read : Image) → area_of 0 image ≡ area_of 0 read → area_of 1 image ≡ area_of 1 read → image ≡ read
same_image image read first second = by image.first image.second read.first read.second first second
  where
    by : (a b c d : List ℕ) → a ≡ c → b ≡ d → pair a b ≡ pair c d
    by a b c d one two = cc

-- an image by what was read: the other area is cleared, or the log that follows
module _ (area o : ℕ) (h : Header) (end : ℕ) (items : List Item) (read image : Image) (lt : area < 2) (below : o < 2) (apart : o ≢ area) (standing : Standing area h end items read)
    (here : area_of area image ≡ area_of area read) where
  form : Form h standing.rs end (area_of area image)
  form = subst (λ (l : List ℕ). Form h standing.rs end l) (sym here) standing.form

  clear_standing : Clears (area_of o read) (area_of o image) → ((n : ℕ) → n ≢ o → area_of n image ≡ area_of n read) → Standing area h end items image
  clear_standing clears elsewhere = record {
    in_force = ⊎_elim
        (λ same. same_force image read (λ n. elim (cases_eq n o) as (λ _. area_of n image ≡ area_of n read) [
          | inl is ↦ ap (λ (k : ℕ). area_of k image) is ∙ same ∙ ap (λ (k : ℕ). area_of k read) (sym is)
          | inr differs ↦ elsewhere n differs
        ]) ∙ standing.in_force)
        (λ blank. blank_force area o image h lt below apart (start_form h standing.rs end (area_of area image) form) blank) clears;
    rs = standing.rs;
    form = form;
    plays = standing.plays;
  }

  next_standing : (g : Header) (rs : List LogRecord) (to : ℕ) (later : List Item) → g.generation ≡ (h.generation + 1) % 2 ^ 64 → Form g rs to (area_of o image)
      → played g.version 16 [] rs ≡ Some later → Standing o g to later image
  next_standing g rs to later next made plays = record {
    in_force = next_force area o image h g lt below apart (start_form h standing.rs end (area_of area image) form) (start_form g rs to (area_of o image) made) standing.form.fits next;
    rs = rs;
    form = made;
    plays = plays;
  }

-- an image with the same messages pending stands for what was read
stands_for : (area end : ℕ) (h : Header) (items : List Item) (read : Image) (o to : ℕ) (g : Header) (later : List Item) (image : Image) → area < 2 → o < 2
    → Standing area h end items read → Standing o g to later image → kept_of later ≡ kept_of items → StandsForRead read image
stands_for area end h items read o to g later image lt below was is same = record {
  sound = λ kept recovers. record {
    items = later;
    reads = standing_reads o to g later image below is;
    same = kept_same read items kept (standing_reads area end h items read lt was) recovers ∙ sym same;
  };
  broken = λ n at reads. absurd (clash n at (reads_same read (Sound items) (Broken n at) (standing_reads area end h items read lt was) reads));
}
  where
    clash : (n at : ℕ) → Sound items ≡ Broken n at → ⊥
    clash n at is = cc

-- what was told still is
still_told : (o : ℕ) (step : List ℕ → List ℕ → Type 0) (a b : DiskSeen) → Ran o step a b → MatchOption a.told (b.told ≡ None) (λ read. (now : Image) × (b.told ≡ Some now))
still_told o step a b ran = by a.told (λ none. untold_from o Any a b none ran.reads) (λ read told. let after = moved_from o Any a b read told ran.reads in (after.0, after.1))
  where
    by : (t : Option Image) → (t ≡ None → b.told ≡ None) → ((read : Image) → t ≡ Some read → (now : Image) × (b.told ≡ Some now)) → MatchOption t (b.told ≡ None) (λ read. (now : Image) × (b.told ≡ Some now))
    by None none some = none refl
    by (Some read) none some = some read refl

-- each image stands for what was read, and so does what is read
pub content_since : (kept : List Kept) (a b : DiskSeen) → Since StandsForRead a b → HasContent kept a → HasContent kept b
content_since kept a b since has = if_some (λ now. Recovers now kept) b.told (λ now told. by now told a.told refl since.still)
  where
    none_some : (now : Image) → None ≡ Some now → Recovers now kept
    none_some now clash = absurd (let no_some : None ≡ Some now = clash in cc)

    by : (now : Image) → b.told ≡ Some now → (t : Option Image) → a.told ≡ t → MatchOption t (b.told ≡ None) (λ read. (i : Image) × (b.told ≡ Some i)) → Recovers now kept
    by now told None none still = none_some now (sym still ∙ told)
    by now told (Some read) some still =
        (at_some (λ read. (image : Image) → b.left a.moment image → StandsForRead read image) a.told read some since.images now
        (b.earlier a.moment b.moment now since.time.later (omega arith) (b.as_read now told))).sound kept (at_some (λ read. Recovers read kept) a.told read some has)

module _ (log : Log) (places : List Place) (a : DiskSeen) (stands : Stands log places a) (o : ℕ) (below : o < 2) (apart : o ≢ log.area) where
  area_apart : log.area ≢ o
  area_apart = λ is. apart (sym is)

  -- the messages that were read
  abbrev Holding : Image → Type 0
  Holding read = (items : List Item) × Standing log.area log.header log.end items read × (places ≡ places_of items)

  pub good_read : (read : Image) → a.told ≡ Some read → (items : List Item) × Standing log.area log.header log.end items read × (places ≡ places_of items) × AreGood (area_of log.area read) items
  good_read read told =
      let here = at_some Holding a.told read told stands.holds in
      (here.0, here.1, here.2, good_form log.header here.1.rs log.end (area_of log.area read) here.0 here.1.form here.1.plays)

  pub pieces_within : IfSome a.told (λ read. AreWithin (area_of log.area read) places)
  pieces_within = if_some (λ read. AreWithin (area_of log.area read) places) a.told (λ read told.
      let here = good_read read told in
      subst (λ (l : List Place). AreWithin (area_of log.area read) l) (sym here.2) (are_within (area_of log.area read) here.0 here.3.held))

  pub other_durable : IsDurable o a
  other_durable = if_some (λ read. (image : Image) → a.left a.moment image → area_of o image ≡ area_of o read) a.told (λ read told image left.
      ap (λ (i : Image). area_of o i) (at_some (λ read. (image : Image) → a.left a.moment image → image ≡ read) a.told read told stands.on_disk image left))

  -- what a crash left since then comes from what was read
  from_read : (step : List ℕ → List ℕ → Type 0) (b : DiskSeen) → Ran o step a b → (read : Image) → a.told ≡ Some read → (image : Image) → b.left a.moment image → Moved o step read image
  from_read step b ran read told image left =
      let comes = at_some (λ read. Each o step a b) a.told read told ran.images image left in
      subst (λ (i : Image). Moved o step i image) (at_some (λ read. (image : Image) → a.left a.moment image → image ≡ read) a.told read told stands.on_disk comes.0 comes.1) comes.2

  pub since_clears : (b : DiskSeen) → Ran o Clears a b → Since StandsForRead a b
  since_clears b ran = record {
    time = ran.time;
    images = if_some (λ read. (image : Image) → b.left a.moment image → StandsForRead read image) a.told (λ read told image left.
        let here = good_read read told in
        let moved = from_read Clears b ran read told image left in
        stands_for log.area log.end log.header here.0 read log.area log.end log.header here.0 image stands.ready.area stands.ready.area here.1
        (clear_standing log.area o log.header log.end here.0 read image stands.ready.area below apart here.1 (moved.elsewhere log.area area_apart) moved.here moved.elsewhere) refl);
    still = still_told o Clears a b ran;
  }

  -- the draft has the records of all messages
  module _ (draft : Draft) (d e : DiskSeen) (version : draft.header.version ≡ 2) (next : draft.header.generation ≡ (log.header.generation + 1) % 2 ^ 64) (has : HasDraft draft d)
      (drafted : IfSome a.told (λ read. IsDraft draft (copies_of (area_of log.area read) places) d))
      (ran : (rs : List LogRecord) → IsDraft draft rs d → Ran o (Turns draft.header rs draft.end) a e) where
    some_ran : Ran o (Turns draft.header has.0 draft.end) a e
    some_ran = ran has.0 has.1

    draft_plays : (read : Image) (items : List Item) → places ≡ places_of items → AreGood (area_of log.area read) items → played draft.header.version 16 [] (copies_of (area_of log.area read) places) ≡ Some (relaid 16 items)
    draft_plays read items same good =
        ap (λ (v : ℕ). played v 16 [] (copies_of (area_of log.area read) places)) version
        ∙ ap (λ (l : List Place). played 2 16 [] (copies_of (area_of log.area read) l)) same ∙ all_played (area_of log.area read) items good

    pub since_turns : Since StandsForRead a e
    since_turns = record {
      time = some_ran.time;
      images = if_some (λ read. (image : Image) → e.left a.moment image → StandsForRead read image) a.told (λ read told image left.
          let here = good_read read told in
          let rs : List LogRecord = copies_of (area_of log.area read) places in
          let moved = from_read (Turns draft.header rs draft.end) e (ran rs (at_some (λ read. IsDraft draft (copies_of (area_of log.area read) places) d) a.told read told drafted)) read told image left in
          let same : area_of log.area image ≡ area_of log.area read = moved.elsewhere log.area area_apart in
          ⊎_elim
          (λ clears. stands_for log.area log.end log.header here.0 read log.area log.end log.header here.0 image stands.ready.area stands.ready.area here.1
          (clear_standing log.area o log.header log.end here.0 read image stands.ready.area below apart here.1 same clears moved.elsewhere) refl)
          (λ made. stands_for log.area log.end log.header here.0 read o draft.end draft.header (relaid 16 here.0) image stands.ready.area below here.1
          (next_standing log.area o log.header log.end here.0 read image stands.ready.area below apart here.1 same draft.header rs draft.end (relaid 16 here.0) next made
          (draft_plays read here.0 here.2 here.3))
          (kept_relaid 16 here.0))
          moved.here);
      still = still_told o (Turns draft.header has.0 draft.end) a e some_ran;
    }

    module _ (ready : IsReady (record { area = o; header = draft.header; end = draft.end }) e)
        (form : (rs : List LogRecord) → IsDraft draft rs d → IfSome e.told (λ now. Form draft.header rs draft.end (area_of o now))) where
      on_disk : IsOnDisk e
      on_disk = if_some (λ now. (image : Image) → e.left e.moment image → image ≡ now) e.told (λ now told image left.
          same_image image now (at 0 (omega arith) now told image left) (at 1 (omega arith) now told image left))
        where
          first : IsDurable log.area a
          first = if_some (λ read. (image : Image) → a.left a.moment image → area_of log.area image ≡ area_of log.area read) a.told (λ read told image left.
              ap (λ (i : Image). area_of log.area i) (at_some (λ read. (image : Image) → a.left a.moment image → image ≡ read) a.told read told stands.on_disk image left))

          second : IsDurable log.area e
          second = durable_elsewhere o log.area (Turns draft.header has.0 draft.end) a e area_apart some_ran first

          one_of : (n area other : ℕ) → n < 2 → area < 2 → other < 2 → other ≢ area → (n ≡ area) ⊎ (n ≡ other)
          one_of n area other x y z differs = elim (cases_eq n area) as (λ _. (n ≡ area) ⊎ (n ≡ other)) [
            | inl is ↦ inl is
            | inr not ↦ inr (omega (arith, x, y, z, differs, not))
          ]

          at : (n : ℕ) → n < 2 → (now : Image) → e.told ≡ Some now → (image : Image) → e.left e.moment image → area_of n image ≡ area_of n now
          at n lt now told image left = ⊎_elim
              (λ is. subst (λ (k : ℕ). area_of k image ≡ area_of k now) (sym is)
              (at_some (λ read. (image : Image) → e.left e.moment image → area_of log.area image ≡ area_of log.area read) e.told now told second image left))
              (λ is. subst (λ (k : ℕ). area_of k image ≡ area_of k now) (sym is)
              (at_some (λ read. (image : Image) → e.left e.moment image → area_of o image ≡ area_of o read) e.told now told ready.durable image left))
              (one_of n log.area o lt stands.ready.area below apart)

      pub stands_turned : Stands (record { area = o; header = draft.header; end = draft.end }) (laid_out 16 places) e
      stands_turned = record {
        ready = ready;
        on_disk = on_disk;
        holds = if_some (λ now. (items : List Item) × Standing o draft.header draft.end items now × (laid_out 16 places ≡ places_of items)) e.told (λ now told.
            let before = told_before o Any a e now told some_ran.reads in
            let here = good_read before.0 before.1 in
            let rs : List LogRecord = copies_of (area_of log.area before.0) places in
            let made : Form draft.header rs draft.end (area_of o now) =
            at_some (λ now. Form draft.header rs draft.end (area_of o now)) e.told now told
            (form rs (at_some (λ read. IsDraft draft (copies_of (area_of log.area read) places) d) a.told before.0 before.1 drafted)) in (
              relaid 16 here.0,
              next_standing log.area o log.header log.end here.0 before.0 now stands.ready.area below apart here.1 (before.2.elsewhere log.area area_apart) draft.header rs draft.end (relaid 16 here.0)
                  next made (draft_plays before.0 here.0 here.2 here.3),
              ap (λ (l : List Place). laid_out 16 l) here.2 ∙ sym (places_relaid 16 here.0),
            ));
      }

-- a draft of all messages in the other area was opened
pub since_anew : (log : Log) (places : List Place) (a d e : DiskSeen) (draft : Draft) (end : ℕ) → Stands log places a
    → draft ≡ record { area = 1 - log.area; header = record { version = 2; generation = (log.header.generation + 1) % 2 ^ 64 }; end = end } → HasDraft draft d
    → IfSome a.told (λ read. IsDraft draft (copies_of (area_of log.area read) places) d) → Ran (1 - log.area) Clears a d
    → ((rs : List LogRecord) → IsDraft draft rs d → Ran draft.area (Opens draft.header rs draft.end) d e) → Since StandsForRead a e
since_anew log places a d e draft end stands made has drafted copied opened =
    since_turns log places a stands (1 - log.area) (other_below log.area stands.ready.area) (other_apart log.area stands.ready.area) draft d e
    (ap (λ (d : Draft). d.header.version) made) (ap (λ (d : Draft). d.header.generation) made) has drafted
    (opened_ran (1 - log.area) draft a d e (ap (λ (d : Draft). d.area) made) copied opened)

-- before any call each image is what was read
pub since_now : (log : Log) (places : List Place) (a : DiskSeen) → Stands log places a → Since StandsForRead a a
since_now log places a stands = since_clears log places a stands (1 - log.area) (other_below log.area stands.ready.area) (other_apart log.area stands.ready.area) a (ran_now (1 - log.area) Clears a (λ b. inl refl))
