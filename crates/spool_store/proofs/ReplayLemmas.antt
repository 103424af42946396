-- The records of an area, read one after the other.
use Rattle.std.proofs.Common.{◌≡◌, ◌≢◌, ℕ, ◌+◌, ◌≤◌, ◌<◌, ◌^◌, List, [], ◌∷◌, ◌++◌, length, drop, get_or, true, false, Option, Some, None, IfSome, IfNone, MatchOption, refl, sym, ◌∙◌, subst, ap, arith}
use Rattle.std.proofs.lemmas.List.{drop_at, take-append-drop, append_assoc, length-append, drop_more}
use Rattle.kumo_disk.specs.Disk.{Image, area_of, DiskSeen}
use Rattle.kumo_disk.proofs.Runs.{at_some, if_some}
use Rattle.spool_log.specs.Area.{LogRecord, bytes_of, bytes_of_all, header_of, RecordAt, IsDamaged, IsVersion}
use Rattle.spool_log.specs.Head.{header_in, version_in}
use Rattle.spool_log.specs.Log.{StepAt, FaultAt, IsFound}
use Rattle.spool_log.specs.declared.head.Header.{Header}
use Rattle.spool_log.specs.declared.log.Log.{Log}
use Rattle.spool_log.specs.declared.log.Found.TheVariants as found
use Rattle.spool_log.specs.declared.read.Step.{Step}
use Rattle.spool_log.specs.declared.read.Step.TheVariants as step
use Rattle.spool_log.specs.declared.read.LogFault.{LogFault}
use Rattle.spool_log.specs.declared.read.LogFault.TheVariants as log_fault
use Rattle.spool_log.proofs.Forms.{bytes-push, small-push}
use Rattle.spool_index.specs.declared.place.Place.{Place}
use Rattle.spool_store.specs.Content.{after, played}
use Rattle.spool_store.specs.Reading.{Breaks}
use Rattle.spool_store.specs.inside.Replay.{Takes, Seen, IsReplaying, IsReplayed}
use Rattle.spool_store.specs.inside.Opening.{IsStill}
use Rattle.spool_store.proofs.StillLemmas.{still_now, still_then}
use Rattle.spool_store.proofs.Unique.{same_record_at}
use Rattle.spool_store.proofs.Forces.{header_form, played_push}

abbrev of : ℕ → List ℕ → LogRecord
of kind payload = record { kind = kind; payload = payload }

header_says : (h : Header) (rest : List ℕ) → IsVersion h.version → h.generation < 2 ^ 64 → header_in (header_of h ++ rest) ≡ h
header_says h rest version fits = header_form h [] 16 (header_of h ++ 0 ∷ []) (record {
  gate = 0;
  rest = [];
  split = refl;
  shut = λ is. absurd (omega (arith, is));
  ends = refl;
  version = version;
  fits = fits;
  small = tt;
})

module _ (h : Header) (at : ℕ) (places : List Place) (b : List ℕ) (seen : Seen h at places b) where
  behind : drop at b ≡ seen.rest
  behind = ap (λ (l : List ℕ). drop at l) seen.split ∙ drop_at (header_of h ++ bytes_of_all seen.rs) seen.rest at (sym seen.ends)

  whole : b ≡ header_of h ++ bytes_of_all seen.rs ++ drop at b
  whole = seen.split ∙ ap (λ (l : List ℕ). header_of h ++ bytes_of_all seen.rs ++ l) (sym behind)

  header : header_in b ≡ h
  header = ap header_in (seen.split ∙ append_assoc (header_of h) (bytes_of_all seen.rs) seen.rest) ∙ header_says h (bytes_of_all seen.rs ++ seen.rest) seen.version seen.fits

  gate_there : drop at b ≡ get_or b at 0 ∷ drop (at + 1) b
  gate_there = drop_more b at 0 seen.within

  pub seen_next : (r : LogRecord) (new : List Place) (next : ℕ) → RecordAt at r b → Takes true (λ items. after h.version at items r) places new → next ≡ at + (6 + length r.payload) → Seen h next new b
  seen_next r new next here takes is =
      let taken = takes seen.items seen.same in
      let all : header_of h ++ bytes_of_all (seen.rs ++ r ∷ []) ≡ header_of h ++ bytes_of_all seen.rs ++ bytes_of r =
      ap (λ (l : List ℕ). header_of h ++ l) (bytes-push seen.rs r) ∙ sym (append_assoc (header_of h) (bytes_of_all seen.rs) (bytes_of r)) in
      let split : b ≡ header_of h ++ bytes_of_all (seen.rs ++ r ∷ []) ++ here.gate ∷ here.rest =
      whole ∙ ap (λ (l : List ℕ). header_of h ++ bytes_of_all seen.rs ++ l) here.split ∙ sym (append_assoc (header_of h ++ bytes_of_all seen.rs) (bytes_of r) (here.gate ∷ here.rest)) ∙ ap (λ (l : List ℕ). l ++ here.gate ∷ here.rest) (sym all) in
      let ends : next ≡ length (header_of h ++ bytes_of_all (seen.rs ++ r ∷ [])) = omega (arith, is, seen.ends, length-append (header_of h ++ bytes_of_all seen.rs) (bytes_of r), ap length all) in
      let place : 16 + length (bytes_of_all seen.rs) ≡ at = omega (arith, seen.ends, length-append (header_of h) (bytes_of_all seen.rs)) in
      record {
        rs = seen.rs ++ r ∷ [];
        rest = here.gate ∷ here.rest;
        split = split;
        ends = ends;
        within = omega (arith, ends, ap length split, length-append (header_of h ++ bytes_of_all (seen.rs ++ r ∷ [])) (here.gate ∷ here.rest));
        version = seen.version;
        fits = seen.fits;
        small = small-push seen.rs r seen.small here.small;
        items = taken.0;
        plays = played_push h.version 16 [] seen.items taken.0 seen.rs r seen.plays (ap (λ (k : ℕ). after h.version k seen.items r) place ∙ taken.1);
        same = taken.2;
      }

  breaks : drop at b ≡ 1 ∷ drop (at + 1) b → ((r : LogRecord) → RecordAt at r b → after h.version at seen.items r ≡ None) → Breaks at b
  breaks open_gate none =
      let version : h.version ≡ version_in b = ap (λ (k : Header). k.version) (sym header) in
      record {
        rs = seen.rs;
        rest = drop (at + 1) b;
        split = whole ∙ ap (λ (l : List ℕ). header_of h ++ bytes_of_all seen.rs ++ l) open_gate ∙ ap (λ (k : Header). header_of k ++ bytes_of_all seen.rs ++ 1 ∷ drop (at + 1) b) (sym header);
        ends = seen.ends ∙ ap (λ (k : Header). length (header_of k ++ bytes_of_all seen.rs)) (sym header);
        small = seen.small;
        items = seen.items;
        plays = subst (λ (k : ℕ). played k 16 [] seen.rs ≡ Some seen.items) version seen.plays;
        no_more = λ r here. subst (λ (k : ℕ). after k at seen.items r ≡ None) version (none r here);
      }

  -- a record that is not a good one
  pub seen_bad : (r : LogRecord) (new : List Place) → RecordAt at r b → Takes false (λ items. after h.version at items r) places new → Breaks at b
  seen_bad r new here takes = breaks (gate_there ∙ ap (λ (k : ℕ). k ∷ drop (at + 1) b) (ap (λ (l : List ℕ). get_or l 0 0) (sym gate_there ∙ here.split)))
      (λ s there. ap (λ (q : LogRecord). after h.version at seen.items q) (same_record_at at s r b there here) ∙ takes seen.items seen.same)

  -- no whole record
  pub seen_damaged : IsDamaged at b → Breaks at b
  seen_damaged damaged = breaks (gate_there ∙ ap (λ (k : ℕ). k ∷ drop (at + 1) b) damaged.0) (λ r here. absurd (damaged.1 r here))

  pub seen_end : get_or b at 0 ≢ 1 → IsReplayed h at places b
  seen_end shut = record {
    rs = seen.rs;
    form = record {
      gate = get_or b at 0;
      rest = drop (at + 1) b;
      split = whole ∙ ap (λ (l : List ℕ). header_of h ++ bytes_of_all seen.rs ++ l) gate_there;
      shut = shut;
      ends = seen.ends;
      version = seen.version;
      fits = seen.fits;
      small = seen.small;
    };
    items = seen.items;
    plays = seen.plays;
    same = seen.same;
  }

-- before the first record
pub seen_begins : (log : Log) (b : List ℕ) → IsVersion log.header.version → log.header.generation < 2 ^ 64 → IsFound log.area b (found.Open log) → Seen log.header 16 [] b
seen_begins log b version fits opens = record {
  rs = [];
  rest = drop 16 b;
  split = sym (take-append-drop 16 b) ∙ ap (λ (l : List ℕ). l ++ drop 16 b) opens.1;
  ends = refl;
  within = omega (arith, opens.2);
  version = version;
  fits = fits;
  small = tt;
  items = [];
  plays = refl;
  same = refl;
}

-- the same of a disk that tells what is read
module _ (h : Header) (area at : ℕ) (places : List Place) (told : Option Image) (seen : IfSome told (λ read. Seen h at places (area_of area read))) where
  pub step_next : (new : List Place) (kind next : ℕ) (payload given : List ℕ) (s : Step) → s ≡ step.Record kind next → given ≡ payload
      → IfSome told (λ read. StepAt (area_of area read) at payload s)
      → Takes true (λ items. after h.version at items (record { kind = kind; payload = given })) places new
      → IfSome told (λ read. Seen h next new (area_of area read))
  step_next new kind next payload given s is same steps takes = if_some (λ read. Seen h next new (area_of area read)) told (λ read tells.
      let stands : StepAt (area_of area read) at payload (step.Record kind next) = subst (λ (q : Step). StepAt (area_of area read) at payload q) is (at_some (λ read. StepAt (area_of area read) at payload s) told read tells steps) in
      seen_next h at places (area_of area read) (at_some (λ read. Seen h at places (area_of area read)) told read tells seen) (of kind payload) new next stands.0
      (subst (λ (l : List ℕ). Takes true (λ items. after h.version at items (record { kind = kind; payload = l })) places new) same takes) stands.1)

  pub step_bad : (new : List Place) (kind next : ℕ) (payload given : List ℕ) (s : Step) → s ≡ step.Record kind next → given ≡ payload
      → IfSome told (λ read. StepAt (area_of area read) at payload s)
      → Takes false (λ items. after h.version at items (record { kind = kind; payload = given })) places new
      → IfSome told (λ read. (area ≡ area) × Breaks at (area_of area read))
  step_bad new kind next payload given s is same steps takes = if_some (λ read. (area ≡ area) × Breaks at (area_of area read)) told (λ read tells.
      let stands : StepAt (area_of area read) at payload (step.Record kind next) = subst (λ (q : Step). StepAt (area_of area read) at payload q) is (at_some (λ read. StepAt (area_of area read) at payload s) told read tells steps) in (
        refl,
        seen_bad h at places (area_of area read) (at_some (λ read. Seen h at places (area_of area read)) told read tells seen) (of kind payload) new stands.0
            (subst (λ (l : List ℕ). Takes false (λ items. after h.version at items (record { kind = kind; payload = l })) places new) same takes),
      ))

  pub step_damaged : (offset : ℕ) (f : LogFault) → f ≡ log_fault.Damaged offset → IfSome told (λ read. FaultAt (area_of area read) at f) → IfSome told (λ read. (area ≡ area) × Breaks at (area_of area read))
  step_damaged offset f is fault = if_some (λ read. (area ≡ area) × Breaks at (area_of area read)) told (λ read tells. (
    refl,
    seen_damaged h at places (area_of area read) (at_some (λ read. Seen h at places (area_of area read)) told read tells seen)
        (subst (λ (k : LogFault). FaultAt (area_of area read) at k) is (at_some (λ read. FaultAt (area_of area read) at f) told read tells fault)).1,
  ))

  pub step_end : (payload : List ℕ) (s : Step) → s ≡ step.End → IfSome told (λ read. StepAt (area_of area read) at payload s) → IfSome told (λ read. IsReplayed h at places (area_of area read))
  step_end payload s is steps = if_some (λ read. IsReplayed h at places (area_of area read)) told (λ read tells.
      seen_end h at places (area_of area read) (at_some (λ read. Seen h at places (area_of area read)) told read tells seen)
      (subst (λ (q : Step). StepAt (area_of area read) at payload q) is (at_some (λ read. StepAt (area_of area read) at payload s) told read tells steps)))

-- the same by other names
pub seen_told : (log here : Log) (at : ℕ) (places : List Place) (old now : DiskSeen) → IsReplaying log here at places old now → IfSome now.told (λ read. Seen here.header at places (area_of here.area read))
seen_told log here at places old now r =
    subst (λ (k : Log). IfSome now.told (λ read. Seen k.header at places (area_of k.area read))) (sym r.same)
    (subst (λ (o : Option Image). IfSome o (λ read. Seen log.header at places (area_of log.area read))) (sym r.still.same) r.seen)

pub told_same : (P : Log → Image → Type 0) (log here : Log) (at : ℕ) (places : List Place) (old now : DiskSeen) → IsReplaying log here at places old now → IfSome now.told (P here) → IfSome old.told (P log)
told_same P log here at places old now r holds =
    subst (λ (k : Log). IfSome old.told (P k)) r.same (subst (λ (o : Option Image). IfSome o (P here)) r.still.same holds)

pub replaying_begins : (log : Log) (places : List Place) (d : DiskSeen) → places ≡ [] → IsVersion log.header.version → log.header.generation < 2 ^ 64
    → IfSome d.told (λ read. IsFound log.area (area_of log.area read) (found.Open log)) → IsReplaying log log 16 places d d
replaying_begins log places d none version fits begins = record {
  still = still_now d;
  later = omega arith;
  same = refl;
  low = omega arith;
  seen = subst (λ (l : List Place). IfSome d.told (λ read. Seen log.header 16 l (area_of log.area read))) (sym none)
      (if_some (λ read. Seen log.header 16 [] (area_of log.area read)) d.told (λ read is. seen_begins log (area_of log.area read) version fits (at_some (λ read. IsFound log.area (area_of log.area read) (found.Open log)) d.told read is begins)));
}

pub replaying_next : (log here later : Log) (at next : ℕ) (places more : List Place) (old mid now : DiskSeen) → IsReplaying log here at places old mid → later ≡ here → next + 1 < 2 ^ 63 → mid.faults ≤ now.faults
    → IsStill mid now → IfSome mid.told (λ read. Seen here.header next more (area_of here.area read)) → IsReplaying log later next more old now
replaying_next log here later at next places more old mid now r same low rose still seen = record {
  still = still_then old mid now r.still still;
  later = omega (arith, r.later, rose);
  same = same ∙ r.same;
  low = low;
  seen = told_same (λ k read. Seen k.header next more (area_of k.area read)) log here at places old mid r seen;
}

-- what an answer says where it is this one
pub at_next : (P : ℕ → Image → Type 0) (told : Option Image) (o : Option ℕ) (next : ℕ) → o ≡ Some next → IfSome told (λ read. IfSome o (λ n. P n read)) → IfSome told (P next)
at_next P told o next is holds = subst (λ (q : Option ℕ). IfSome told (λ read. IfSome q (λ n. P n read))) is holds

pub at_end : (P : Image → Type 0) (told : Option Image) (o : Option ℕ) → o ≡ None → IfSome told (λ read. IfNone o (P read)) → IfSome told P
at_end P told o is holds = subst (λ (q : Option ℕ). IfSome told (λ read. IfNone q (P read))) is holds

pub match_some : (A : Type 0) (B : ℕ → Type 0) (o : Option ℕ) (next : ℕ) → o ≡ Some next → MatchOption o A B → B next
match_some A B o next is holds = subst (λ (q : Option ℕ). MatchOption q A B) is holds

pub match_none : (A : Type 0) (B : ℕ → Type 0) (o : Option ℕ) → o ≡ None → MatchOption o A B → A
match_none A B o is holds = subst (λ (q : Option ℕ). MatchOption q A B) is holds
