-- Messages that are read again from their places.
use Rattle.std.proofs.Common.{◌≡◌, ℕ, ◌+◌, ◌≤◌, ◌<◌, List, [], ◌∷◌, ◌++◌, length, take, drop, map, Option, Some, IfSome, refl, sym, ◌∙◌, subst, ap, arith}
use Rattle.std.specs.Int.{to_be_bytes, w64, w128}
use Rattle.std.specs.Prelude.{unwrap_or}
use Rattle.std.proofs.lemmas.List.{length-append, append_assoc}
use Rattle.kumo_disk.specs.Disk.{Image, area_of, DiskSeen}
use Rattle.kumo_disk.proofs.Runs.{at_some, if_some}
use Rattle.queue_name.specs.declared.message.Message.{Message}
use Rattle.spool_format.specs.Fields.{text_field}
use Rattle.spool_format.specs.Held.{held_payload, held_in}
use Rattle.spool_format.specs.declared.kept.Kept.{Kept}
use Rattle.spool_format.proofs.ReadLemmas.{held_long}
use Rattle.spool_index.specs.declared.place.Place.{Place}
use Rattle.spool_store.specs.Content.{Item, place_of, places_of, kept_of}
use Rattle.spool_store.specs.Store.{unplaced, waiting_of}
use Rattle.spool_store.specs.inside.Opening.{IsStill}
use Rattle.spool_store.specs.inside.Replay.{PayloadStands, AllStand, StandsThere, AllStandThere, IsRead, AreRead, IsGathering}
use Rattle.spool_store.proofs.StillLemmas.{still_now, still_then}

held_some : (m : Message) → 0 < length (held_payload m)
unfolding held_payload
held_some m = omega (
  arith,
  length-append (to_be_bytes w128 m.id) (to_be_bytes w64 m.created ++ (text_field m.sender ++ (text_field m.recipient
      ++ (text_field (unwrap_or m.name.campaign []) ++ (text_field (unwrap_or m.name.tenant []) ++ text_field m.body))))),
)

-- no message stands in no bytes
pub not_empty : (b : List ℕ) (place : Place) → StandsThere b place → place.size ≡ 0 → ⊥
not_empty b place stands none = absurd (omega (arith, none, ap (λ (p : Place). p.size) stands.1, held_some stands.0.kept.message))

pub stands_within : (area : ℕ) (place : Place) (told : Option Image) → IfSome told (λ read. StandsThere (area_of area read) place) → IfSome told (λ read. place.at + place.size ≤ length (area_of area read))
stands_within area place told stands = if_some (λ read. place.at + place.size ≤ length (area_of area read)) told (λ read is.
    let s : StandsThere (area_of area read) place = at_some (λ read. StandsThere (area_of area read) place) told read is stands in
    omega (arith, ap (λ (p : Place). p.at) s.1, ap (λ (p : Place). p.size) s.1, s.2.within))

-- the bytes that were read there hold it
pub held_there : (b payload : List ℕ) (place : Place) (item : Item) → payload ≡ take place.size (drop place.at b) → place ≡ place_of item → PayloadStands b item → held_in payload ≡ Some item.kept.message
held_there b payload place item is same stands =
    ap (λ (l : List ℕ). held_in l) is ∙ ap (λ (p : Place). held_in (take p.size (drop p.at b))) same ∙ stands.held

waiting : (id size failures due : ℕ) → Place
waiting id size failures due = record { id = id; at = 0; size = size; failures = failures; due = due }

pub waiting_same : (place : Place) (m : Message) (payload : List ℕ) → m.id ≡ place.id → held_in payload ≡ Some m → length payload ≡ place.size
    → waiting_of (record { message = m; failures = place.failures; due = place.due }) ≡ unplaced place
unfolding waiting
waiting_same place m payload same held long =
    ap (λ (k : ℕ). waiting k (length (held_payload m)) place.failures place.due) same
    ∙ ap (λ (k : ℕ). waiting place.id k place.failures place.due) (sym (held_long payload m held) ∙ long)

-- the last place of several, and the message there
record Ends (before : List Place) (place : Place) (items : List Item) : Type 0 where
  front : List Item
  item : Item
  split : items ≡ front ++ item ∷ []
  places : before ≡ places_of front
  same : place ≡ place_of item

cons_same : (p q : Place) (ps qs : List Place) → p ∷ ps ≡ q ∷ qs → (p ≡ q) × (ps ≡ qs)
cons_same p q ps qs is = (let head : p ≡ q = cc in head, let tail : ps ≡ qs = cc in tail)

none_cons : (p : Place) (ps : List Place) → p ∷ ps ≡ [] → ⊥
none_cons p ps is = cc

ends : (before : List Place) (place : Place) (items : List Item) → before ++ place ∷ [] ≡ places_of items → Ends before place items
ends [] place [] is = absurd (none_cons place [] is)
ends [] place (i ∷ []) is = record { front = []; item = i; split = refl; places = refl; same = (cons_same place (place_of i) [] [] is).0 }
ends [] place (i ∷ j ∷ items) is = absurd (none_cons (place_of j) (places_of items) (sym (cons_same place (place_of i) [] (place_of j ∷ places_of items) is).1))
ends (p ∷ before) place [] is = absurd (none_cons p (before ++ place ∷ []) is)
ends (p ∷ before) place (i ∷ items) is =
    let both = cons_same p (place_of i) (before ++ place ∷ []) (places_of items) is in
    let rest = ends before place items both.1 in
    record {
      front = i ∷ rest.front;
      item = rest.item;
      split = ap (λ (l : List Item). i ∷ l) rest.split;
      places = ap (λ (l : List Place). p ∷ l) rest.places ∙ ap (λ (q : Place). q ∷ places_of rest.front) both.0;
      same = rest.same;
    }

stand_parts : (b : List ℕ) (front : List Item) (i : Item) → AllStand b (front ++ i ∷ []) → AllStand b front × PayloadStands b i
stand_parts b [] i all = (tt, all.0)
stand_parts b (j ∷ front) i all = let rest = stand_parts b front i all.1 in ((all.0, rest.0), rest.1)

kept_push : (front : List Item) (i : Item) → kept_of (front ++ i ∷ []) ≡ kept_of front ++ i.kept ∷ []
kept_push [] i = refl
kept_push (j ∷ front) i = ap (λ (l : List Kept). j.kept ∷ l) (kept_push front i)

are_read_push : (b : List ℕ) (before : List Place) (place : Place) (kept : List Kept) (k : Kept) → AreRead b before kept → IsRead b place k → AreRead b (before ++ place ∷ []) (kept ++ k ∷ [])
are_read_push b before place kept k are is = λ items same stand.
    let e = ends before place items same in
    let parts = stand_parts b e.front e.item (subst (λ (l : List Item). AllStand b l) e.split stand) in
    ap (λ (l : List Kept). l ++ k ∷ []) (are e.front e.places parts.0) ∙ ap (λ (q : Kept). kept_of e.front ++ q ∷ []) (is e.item e.same parts.1)
    ∙ sym (kept_push e.front e.item) ∙ ap (λ (l : List Item). kept_of l) (sym e.split)

waiting_push : (before : List Place) (kept : List Kept) (p : Place) (k : Kept) → map unplaced before ≡ map waiting_of kept → waiting_of k ≡ unplaced p
    → map unplaced (before ++ p ∷ []) ≡ map waiting_of (kept ++ k ∷ [])
waiting_push before kept p k same one =
    places before ∙ ap (λ (l : List Place). l ++ unplaced p ∷ []) same ∙ ap (λ (q : Place). map waiting_of kept ++ q ∷ []) (sym one) ∙ sym (keeps kept)
  where
    places : (l : List Place) → map unplaced (l ++ p ∷ []) ≡ map unplaced l ++ unplaced p ∷ []
    places [] = refl
    places (q ∷ l) = ap (λ (t : List Place). unplaced q ∷ t) (places l)

    keeps : (l : List Kept) → map waiting_of (l ++ k ∷ []) ≡ map waiting_of l ++ waiting_of k ∷ []
    keeps [] = refl
    keeps (q ∷ l) = ap (λ (t : List Place). waiting_of q ∷ t) (keeps l)

-- what stands at one of several places
stands_in : (b : List ℕ) (before : List Place) (place : Place) (left : List Place) (items : List Item) → before ++ place ∷ left ≡ places_of items → AllStand b items → StandsThere b place
stands_in b [] place left [] is all = absurd (none_cons place left is)
stands_in b [] place left (i ∷ items) is all = (i, (cons_same place (place_of i) left (places_of items) is).0, all.0)
stands_in b (p ∷ before) place left [] is all = absurd (none_cons p (before ++ place ∷ left) is)
stands_in b (p ∷ before) place left (i ∷ items) is all = stands_in b before place left items (cons_same p (place_of i) (before ++ place ∷ left) (places_of items) is).1 all.1

pub gathering_begins : (area : ℕ) (all left : List Place) (kept : List Kept) (d : DiskSeen) → left ≡ all → kept ≡ [] → IsGathering area all left kept d d
gathering_begins area all left kept d same none = record {
  still = still_now d;
  later = omega arith;
  before = [];
  split = sym same;
  waiting = ap (λ (l : List Kept). map waiting_of l) (sym none);
  read = if_some (λ read. AreRead (area_of area read) [] kept) d.told (λ read is items places stand. none ∙ nothing items places);
}
  where
    nothing : (items : List Item) → [] ≡ places_of items → [] ≡ kept_of items
    nothing [] is = refl
    nothing (i ∷ items) is = absurd (none_cons (place_of i) (places_of items) (sym is))

module _ (area : ℕ) (all left more : List Place) (place : Place) (kept : List Kept) (old mid : DiskSeen) (here : IsGathering area all left kept old mid) (next : left ≡ place ∷ more) where
  pub gathering_stands : IfSome old.told (λ read. AllStandThere (area_of area read) all) → IfSome mid.told (λ read. StandsThere (area_of area read) place)
  gathering_stands stand = if_some (λ read. StandsThere (area_of area read) place) mid.told (λ read is.
      let s : AllStandThere (area_of area read) all = at_some (λ read. AllStandThere (area_of area read) all) old.told read (sym here.still.same ∙ is) stand in
      stands_in (area_of area read) here.before place more s.0 (ap (λ (l : List Place). here.before ++ l) (sym next) ∙ sym here.split ∙ s.1) s.2)

  pub gathering_next : (k : Kept) (then : List Kept) (now : DiskSeen) → then ≡ kept ++ k ∷ [] → mid.faults ≤ now.faults → IsStill mid now → waiting_of k ≡ unplaced place
      → IfSome mid.told (λ read. IsRead (area_of area read) place k) → IsGathering area all more then old now
  gathering_next k then now pushed rose still one is_read = record {
    still = still_then old mid now here.still still;
    later = omega (arith, here.later, rose);
    before = here.before ++ place ∷ [];
    split = here.split ∙ ap (λ (l : List Place). here.before ++ l) next ∙ sym (append_assoc here.before (place ∷ []) more);
    waiting = waiting_push here.before kept place k here.waiting one ∙ ap (λ (l : List Kept). map waiting_of l) (sym pushed);
    read = if_some (λ read. AreRead (area_of area read) (here.before ++ place ∷ []) then) old.told (λ read is.
        subst (λ (l : List Kept). AreRead (area_of area read) (here.before ++ place ∷ []) l) (sym pushed)
        (are_read_push (area_of area read) here.before place kept k (at_some (λ read. AreRead (area_of area read) here.before kept) old.told read is here.read)
        (at_some (λ read. IsRead (area_of area read) place k) mid.told read (here.still.same ∙ is) is_read)));
  }

module _ (area : ℕ) (all left : List Place) (kept : List Kept) (old now : DiskSeen) (here : IsGathering area all left kept old now) (done : left ≡ []) where
  nothing_left : here.before ≡ all
  nothing_left = sym (here.split ∙ ap (λ (l : List Place). here.before ++ l) done ∙ none here.before)
    where
      none : (l : List Place) → l ++ [] ≡ l
      none [] = refl
      none (p ∷ l) = ap (λ (t : List Place). p ∷ t) (none l)

  pub gathered_waiting : map unplaced all ≡ map waiting_of kept
  gathered_waiting = ap (λ (l : List Place). map unplaced l) (sym nothing_left) ∙ here.waiting

  pub gathered_read : IfSome old.told (λ read. AreRead (area_of area read) all kept)
  gathered_read = subst (λ (l : List Place). IfSome old.told (λ read. AreRead (area_of area read) l kept)) nothing_left here.read
