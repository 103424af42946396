-- What calls on a spool keep of its pending messages, at any moment of a crash.
use Rattle.std.proofs.Common.{◌≡◌, ◌≢◌, ◌⊎◌, inl, inr, ⊎_elim, ℕ, zero, suc, ◌+◌, ◌<◌, List, [], ◌∷◌, ◌++◌, length, Option, Some, None, MatchOption, refl, sym, ◌∙◌, subst, ap, arith}
use Rattle.std.proofs.lemmas.List.{length-append}
use Rattle.kumo_disk.specs.Disk.{Image, area_of, DiskSeen, Moved, Each, ReadMoves, Any}
use Rattle.kumo_disk.specs.Calls.{Ran}
use Rattle.kumo_disk.proofs.Runs.{at_some, if_some, moved_from, untold_from, told_before, lasts_now, lasts_then}
use Rattle.spool_log.specs.Area.{LogRecord, bytes_of, bytes_of_all, header_of, Form, Adds, Added}
use Rattle.spool_log.specs.Head.{start_of}
use Rattle.spool_log.specs.Log.{IsReady}
use Rattle.spool_log.specs.declared.head.Header.{Header}
use Rattle.spool_log.specs.declared.head.Start.{Start}
use Rattle.spool_log.specs.declared.log.Log.{Log}
use Rattle.spool_format.specs.declared.kept.Kept.{Kept}
use Rattle.spool_index.specs.declared.place.Place.{Place}
use Rattle.spool_store.specs.Content.{Item, after, played, kept_of, places_of}
use Rattle.spool_store.specs.Reading.{Sound, Force, InForce, force_in, force_of, Reads, Recovers, HasContent}
use Rattle.spool_store.specs.Crash.{IsOnDisk, Since, StandsForRead}
use Rattle.spool_store.specs.Standing.{Standing, Stands}
use Rattle.spool_store.proofs.Unique.{kept_same}
use Rattle.spool_store.proofs.Forces.{start_form, played_push, standing_reads}

pub still_of : (old new : DiskSeen) → (old.told ≡ None → new.told ≡ None) → ((read : Image) → old.told ≡ Some read → (now : Image) × (new.told ≡ Some now)) → MatchOption old.told (new.told ≡ None) (λ read. (now : Image) × (new.told ≡ Some now))
still_of old new none some = by old.told none some
  where
    by : (o : Option Image) → (o ≡ None → new.told ≡ None) → ((read : Image) → o ≡ Some read → (now : Image) × (new.told ≡ Some now)) → MatchOption o (new.told ≡ None) (λ read. (now : Image) × (new.told ≡ Some now))
    by None none some = none refl
    by (Some read) none some = some read refl

-- before any call a crash leaves what is read
pub since_now : (P : Image → Image → Type 0) (a : DiskSeen) → IsOnDisk a → ((read : Image) → a.told ≡ Some read → P read read) → Since P a a
since_now P a on_disk same = record {
  time = lasts_now a;
  images = if_some (λ read. (image : Image) → a.left a.moment image → P read image) a.told (λ read told image left.
      subst (λ (i : Image). P read i) (sym (at_some (λ read. (image : Image) → a.left a.moment image → image ≡ read) a.told read told on_disk image left)) (same read told));
  still = still_of a a (λ none. none) (λ read told. (read, told));
}

-- what calls on one area leave, from what was read when they began
pub since_ran : (P : Image → Image → Type 0) (area : ℕ) (step : List ℕ → List ℕ → Type 0) (a b : DiskSeen) → IsOnDisk a
    → ((read image : Image) → a.told ≡ Some read → Moved area step read image → P read image) → Ran area step a b → Since P a b
since_ran P area step a b on_disk gives ran = record {
  time = ran.time;
  images = if_some (λ read. (image : Image) → b.left a.moment image → P read image) a.told (λ read told image left.
      let comes = at_some (λ read. Each area step a b) a.told read told ran.images image left in
      let same : comes.0 ≡ read = at_some (λ read. (image : Image) → a.left a.moment image → image ≡ read) a.told read told on_disk comes.0 comes.1 in
      gives read image told (subst (λ (i : Image). Moved area step i image) same comes.2));
  still = still_of a b (λ none. untold_from area Any a b none ran.reads) (λ read told. let after = moved_from area Any a b read told ran.reads in (after.0, after.1));
}

-- one after the other: the second judged from what a crash might have left before it
pub since_then : (P Q R : Image → Image → Type 0) (a b c : DiskSeen) → ((read image : Image) → P read image → R read image)
    → ((read now image : Image) → a.told ≡ Some read → b.told ≡ Some now → Q now image → R read image) → Since P a b → Since Q b c → Since R a c
since_then P Q R a b c alone both first second = record {
  time = lasts_then a b c first.time second.time;
  images = if_some (λ read. (image : Image) → c.left a.moment image → R read image) a.told (λ read told image left.
      ⊎_elim (λ old. alone read image (at_some (λ read. (image : Image) → b.left a.moment image → P read image) a.told read told first.images image old))
      (λ new. let mid = at_told read told in both read mid.0 image told mid.1 (at_some (λ read. (image : Image) → c.left b.moment image → Q read image) b.told mid.0 mid.1 second.images image new))
      (second.time.nothing_else a.moment image first.time.later left));
  still = still_of a c (λ none. untold second (untold first none)) (λ read told. let mid = at_told read told in told_on second mid.0 mid.1);
}
  where
    untold : {S : Image → Image → Type 0} {x y : DiskSeen} → Since S x y → x.told ≡ None → y.told ≡ None
    untold {x = x} {y = y} since none = subst (λ (o : Option Image). MatchOption o (y.told ≡ None) (λ read. (now : Image) × (y.told ≡ Some now))) none since.still

    told_on : {S : Image → Image → Type 0} {x y : DiskSeen} → Since S x y → (read : Image) → x.told ≡ Some read → (now : Image) × (y.told ≡ Some now)
    told_on {x = x} {y = y} since read told = subst (λ (o : Option Image). MatchOption o (y.told ≡ None) (λ read. (now : Image) × (y.told ≡ Some now))) told since.still

    at_told : (read : Image) → a.told ≡ Some read → (now : Image) × (b.told ≡ Some now)
    at_told read told = told_on first read told

pub since_as : (P Q : Image → Image → Type 0) (a b : DiskSeen) → ((read image : Image) → a.told ≡ Some read → P read image → Q read image) → Since P a b → Since Q a b
since_as P Q a b weaker since = record {
  time = since.time;
  images = if_some (λ read. (image : Image) → b.left a.moment image → Q read image) a.told (λ read told image left. weaker read image told (at_some (λ read. (image : Image) → b.left a.moment image → P read image) a.told read told since.images image left));
  still = since.still;
}

start_at : ℕ → Image → Start
start_at n image = start_of (area_of n image)

-- where both headers say what they said, the same area is in force
pub force_kept : (image i : Image) (f : Force) → start_of i.first ≡ start_of image.first → start_of i.second ≡ start_of image.second → force_in image ≡ f → force_in i ≡ f
force_kept image i f first second is = ap (λ (s : Start). force_of s (start_of i.second)) first ∙ ap (λ (s : Start). force_of (start_of image.first) s) second ∙ is

-- a header that stays, and the other area as it was
pub in_force_kept : (area : ℕ) (step : List ℕ → List ℕ → Type 0) (image i : Image) (f : Force) → area < 2 → start_of (area_of area i) ≡ start_of (area_of area image) → Moved area step image i → force_in image ≡ f → force_in i ≡ f
in_force_kept zero step image i f lt same moved is = force_kept image i f same (ap start_of (moved.elsewhere 1 (λ one. absurd (omega (arith, one))))) is
in_force_kept (suc zero) step image i f lt same moved is = force_kept image i f (ap start_of (moved.elsewhere 0 (λ none. absurd (omega (arith, none))))) same is
in_force_kept (suc (suc n)) step image i f lt same moved is = absurd (omega (arith, lt))

abbrev image_of : List ℕ → List ℕ → Image
image_of x y = record { first = x; second = y }

-- one more record, or none
module _ (log : Log) (r : LogRecord) (items later : List Item) (lt : log.area < 2) (gives : after log.header.version log.end items r ≡ Some later) (read : Image) (stands : Standing log.area log.header log.end items read) where
  ends : log.end ≡ 16 + length (bytes_of_all stands.rs)
  ends = omega (arith, stands.form.ends, length-append (header_of log.header) (bytes_of_all stands.rs))

  kept_form : (i : Image) → Moved log.area (Adds log.header log.end r) read i → Form log.header stands.rs log.end (area_of log.area i) → Standing log.area log.header log.end items i
  kept_form i moved form = record {
    in_force = in_force_kept log.area (Adds log.header log.end r) read i (InForce log.area) lt
        (start_form log.header stands.rs log.end (area_of log.area i) form ∙ sym (start_form log.header stands.rs log.end (area_of log.area read) stands.form)) moved stands.in_force;
    rs = stands.rs;
    form = form;
    plays = stands.plays;
  }

  more_plays : played log.header.version 16 [] (stands.rs ++ r ∷ []) ≡ Some later
  more_plays = played_push log.header.version 16 [] items later stands.rs r stands.plays (ap (λ (k : ℕ). after log.header.version k items r) (sym ends) ∙ gives)

  more_form : {step : List ℕ → List ℕ → Type 0} (end : ℕ) (i : Image) → Moved log.area step read i → Form log.header (stands.rs ++ r ∷ []) end (area_of log.area i) → Standing log.area log.header end later i
  more_form {step = step} end i moved form = record {
    in_force = in_force_kept log.area step read i (InForce log.area) lt
        (start_form log.header (stands.rs ++ r ∷ []) end (area_of log.area i) form ∙ sym (start_form log.header stands.rs log.end (area_of log.area read) stands.form)) moved stands.in_force;
    rs = stands.rs ++ r ∷ [];
    form = form;
    plays = more_plays;
  }

  pub standing_adds : (i : Image) → Moved log.area (Adds log.header log.end r) read i → Reads i (Sound items) ⊎ Reads i (Sound later)
  standing_adds i moved = ⊎_elim (λ form. inl (standing_reads log.area log.end log.header items i lt (kept_form i moved form)))
      (λ form. inr (standing_reads log.area (log.end + length (bytes_of r)) log.header later i lt (more_form {step = Adds log.header log.end r} (log.end + length (bytes_of r)) i moved form)))
      (moved.here stands.rs stands.form)

  pub standing_added : (end : ℕ) (i : Image) → Moved log.area (Added log.header log.end end r) read i → Standing log.area log.header end later i
  standing_added end i moved = more_form {step = Added log.header log.end end r} end i moved (moved.here stands.rs stands.form)

pub recovers_from : (image : Image) (items : List Item) (kept : List Kept) → Reads image (Sound items) → kept ≡ kept_of items → Recovers image kept
recovers_from image items kept reads same = record { items = items; reads = reads; same = same }

-- An append of a record that is a good one wherever these messages are pending: before, each image has the messages that were
-- pending; then those, or those that are then.
module _ (log : Log) (places : List Place) (r : LogRecord) (a b : DiskSeen) (stands : Stands log places a) (next : List Item → List Item) (more : List Kept → List Kept)
    (gives : (items : List Item) → places ≡ places_of items → after log.header.version log.end items r ≡ Some (next items))
    (tells : (items : List Item) → places ≡ places_of items → kept_of (next items) ≡ more (kept_of items)) where
  pub since_adds : (before : List Kept) → HasContent before a → Ran log.area (Adds log.header log.end r) a b → Since (λ read image. Recovers image before ⊎ Recovers image (more before)) a b
  since_adds before content ran = since_ran (λ read image. Recovers image before ⊎ Recovers image (more before)) log.area (Adds log.header log.end r) a b stands.on_disk
      (λ read image told moved.
      let held = at_some (λ read. (items : List Item) × Standing log.area log.header log.end items read × (places ≡ places_of items)) a.told read told stands.holds in
      let was : before ≡ kept_of held.0 = kept_same read held.0 before (standing_reads log.area log.end log.header held.0 read stands.ready.area held.1) (at_some (λ read. Recovers read before) a.told read told content) in
      ⊎_elim (λ old. inl (recovers_from image held.0 before old was))
      (λ new. inr (recovers_from image (next held.0) (more before) new (ap (λ (l : List Kept). more l) was ∙ sym (tells held.0 held.2))))
      (standing_adds log r held.0 (next held.0) stands.ready.area (gives held.0 held.2) read held.1 image moved)) ran

  module _ (later : Log) (places_then : List Place) (next_is : later ≡ record { area = log.area; header = log.header; end = log.end + (6 + length r.payload) })
      (places_is : (items : List Item) → places ≡ places_of items → places_then ≡ places_of (next items))
      (ran : Ran log.area (Adds log.header log.end r) a b) (ready : IsReady later b) (added : ReadMoves log.area (Added log.header log.end later.end r) a b) where
    area_is : later.area ≡ log.area
    area_is = ap (λ (l : Log). l.area) next_is

    header_is : later.header ≡ log.header
    header_is = ap (λ (l : Log). l.header) next_is

    -- a crash then leaves of each area what is read
    pub on_disk_adds : IsOnDisk b
    on_disk_adds = if_some (λ read. (image : Image) → b.left b.moment image → image ≡ read) b.told (λ now told image left.
        let before = told_before log.area (Added log.header log.end later.end r) a b now told added in
        let here : area_of later.area image ≡ area_of later.area now = at_some (λ read. (image : Image) → b.left b.moment image → area_of later.area image ≡ area_of later.area read) b.told now told ready.durable image left in
        let comes = at_some (λ read. Each log.area (Adds log.header log.end r) a b) a.told before.0 before.1 ran.images image (b.earlier a.moment b.moment image ran.time.later (omega arith) left) in
        let from : comes.0 ≡ before.0 = at_some (λ read. (image : Image) → a.left a.moment image → image ≡ read) a.told before.0 before.1 stands.on_disk comes.0 comes.1 in
        both log.area image now stands.ready.area (subst (λ (k : ℕ). area_of k image ≡ area_of k now) area_is here)
        (λ other differs. comes.2.elsewhere other differs ∙ ap (λ (i : Image). area_of other i) from ∙ sym (before.2.elsewhere other differs)))
      where
        pair : (image now : Image) → image.first ≡ now.first → image.second ≡ now.second → image ≡ now
        pair image now first second = by image.first image.second now.first now.second first second
          where
            by : (x y u v : List ℕ) → x ≡ u → y ≡ v → image_of x y ≡ image_of u v
            by x y u v one two = cc

        both : (area : ℕ) (image now : Image) → area < 2 → area_of area image ≡ area_of area now → ((other : ℕ) → other ≢ area → area_of other image ≡ area_of other now) → image ≡ now
        both zero image now lt here elsewhere = pair image now here (elsewhere 1 (λ one. absurd (omega (arith, one))))
        both (suc zero) image now lt here elsewhere = pair image now (elsewhere 0 (λ none. absurd (omega (arith, none)))) here
        both (suc (suc n)) image now lt here elsewhere = absurd (omega (arith, lt))

    pub stands_adds : Stands later places_then b
    stands_adds = record {
      ready = ready;
      on_disk = on_disk_adds;
      holds = if_some (λ read. (items : List Item) × Standing later.area later.header later.end items read × (places_then ≡ places_of items)) b.told (λ now told.
          let before = told_before log.area (Added log.header log.end later.end r) a b now told added in
          let held = at_some (λ read. (items : List Item) × Standing log.area log.header log.end items read × (places ≡ places_of items)) a.told before.0 before.1 stands.holds in (
            next held.0,
            subst (λ (k : ℕ). Standing k later.header later.end (next held.0) now) (sym area_is) (subst (λ (h : Header). Standing log.area h later.end (next held.0) now) (sym header_is)
                (standing_added log r held.0 (next held.0) stands.ready.area (gives held.0 held.2) before.0 held.1 later.end now before.2)),
            places_is held.0 held.2,
          ));
    }

    pub content_adds : (kept : List Kept) → HasContent kept a → HasContent (more kept) b
    content_adds kept content = if_some (λ read. Recovers read (more kept)) b.told (λ now told.
        let before = told_before log.area (Added log.header log.end later.end r) a b now told added in
        let held = at_some (λ read. (items : List Item) × Standing log.area log.header log.end items read × (places ≡ places_of items)) a.told before.0 before.1 stands.holds in
        let was : kept ≡ kept_of held.0 = kept_same before.0 held.0 kept (standing_reads log.area log.end log.header held.0 before.0 stands.ready.area held.1) (at_some (λ read. Recovers read kept) a.told before.0 before.1 content) in
        recovers_from now (next held.0) (more kept)
        (standing_reads log.area later.end log.header (next held.0) now stands.ready.area (standing_added log r held.0 (next held.0) stands.ready.area (gives held.0 held.2) before.0 held.1 later.end now before.2))
        (ap (λ (l : List Kept). more l) was ∙ sym (tells held.0 held.2)))

-- what stands for what was read has the same messages pending
pub since_kept : (kept : List Kept) (a b : DiskSeen) → HasContent kept a → Since StandsForRead a b → Since (λ read image. Recovers image kept) a b
since_kept kept a b content since = since_as StandsForRead (λ read image. Recovers image kept) a b
    (λ read image told stands. stands.sound kept (at_some (λ read. Recovers read kept) a.told read told content)) since

pub stands_then : (a b c : DiskSeen) → Since StandsForRead a b → Since StandsForRead b c → Since StandsForRead a c
stands_then a b c first second = since_then StandsForRead StandsForRead StandsForRead a b c (λ read image stands. stands)
    (λ read now image told told_now stands.
    let mid : StandsForRead read now = at_some (λ read. (image : Image) → b.left a.moment image → StandsForRead read image) a.told read told first.images now
    (b.earlier a.moment b.moment now first.time.later (omega arith) (b.as_read now told_now)) in
    record { sound = λ kept recovers. stands.sound kept (mid.sound kept recovers); broken = λ n at reads. stands.broken n at (mid.broken n at reads) })
    first second
