-- What a draft's calls leave of its area, and what a log's do.
use Rattle.std.proofs.Common.{◌≡◌, ◌≢◌, inl, inr, Bool, true, false, ◌==◌, ℕ, ◌+◌, ◌≤◌, ◌<◌, ◌^◌, List, [], ◌∷◌, ◌++◌, length, get_or, Some, IfSome, sym, ◌∙◌, subst, ap, arith}
use Rattle.std.specs.Bool.{⊤}
use Rattle.std.proofs.lemmas.Bool.Decides.{nat_tests}
use Rattle.std.proofs.lemmas.List.{append_assoc, length-append}
use Rattle.kumo_disk.specs.Disk.{Image, area_of, DiskSeen, ReadMoves, IsDurable, Same, Written, with_bytes, Cut}
use Rattle.kumo_disk.specs.Calls.{Ran}
use Rattle.kumo_disk.proofs.Runs.{at_some, if_some, ran_as, ran_known, reads_then}
use Rattle.kumo_disk.proofs.Known.{AllLeft, ran_by, left_after, left_durable, left_any, told_after, reads_as_at}
use Rattle.spool_log.specs.declared.head.Header.{Header}
use Rattle.spool_log.specs.declared.draft.Draft.{Draft}
use Rattle.spool_log.specs.Area.{LogRecord, body_of, bytes_of, bytes_of_all, header_rest, Form, IsForm, Adds, Added}
use Rattle.spool_log.specs.Head.{Clears, StartsShut}
use Rattle.spool_log.specs.Log.{IsDraft, BeginsBlank, StaysShut, Opens}
use Rattle.spool_log.specs.inside.Steps.{KeepsFront, Flips, StaysShort, Becomes}
use Rattle.spool_log.proofs.Bytes.{with_at_end}
use Rattle.spool_log.proofs.Forms.{bytes-push, small-push, keeps_adds, flips_adds, opens_adds, blank_short, blank_shut, keeps_shut, flips_opens, written_opens, cut_blank, flips_clears}

-- an area of at most one byte became one closed gate
module _ (area : ℕ) (a b c : DiskSeen) (durable : IsDurable area a) (short : IfSome a.told (λ read. length (area_of area read) ≤ 1))
    (made : ReadMoves area (Becomes (0 ∷ [])) a b) (then : IsDurable area b) (second : Ran area (KeepsFront 1) b c) where
  one_gate : AllLeft area (λ bytes. bytes ≡ 0 ∷ []) b
  one_gate = left_durable area (λ bytes. bytes ≡ 0 ∷ []) b then (told_after area (Becomes (0 ∷ [])) (λ bytes. bytes ≡ 0 ∷ []) a b (λ read is l becomes. becomes) made)

  gate_shut : (y z : List ℕ) → y ≡ 0 ∷ [] → KeepsFront 1 y z → StartsShut z
  gate_shut y z is keeps = keeps_shut 1 y z (omega arith) keeps (omega (arith, ap length is), λ one. absurd (omega (arith, one, ap (λ (l : List ℕ). get_or l 0 0) is)))

  pub begin_ran : Ran area StaysShort a b → Ran area BeginsBlank a c
  begin_ran first = ran_by area (λ bytes. length bytes ≤ 1) (λ bytes. bytes ≡ 0 ∷ []) StaysShort (KeepsFront 1) BeginsBlank a b c
      (left_durable area (λ bytes. length bytes ≤ 1) a durable short) one_gate
      (λ x y was stays. λ is. blank_short y (stays is))
      (λ x y z was is stays keeps. λ s. blank_shut z (gate_shut y z is keeps)) first second

  pub begin_shut : AllLeft area StartsShut c
  begin_shut = left_after area (λ bytes. bytes ≡ 0 ∷ []) StartsShut (KeepsFront 1) b c one_gate gate_shut second

  pub begin_bytes : (h : Header) → ReadMoves area (Written 1 (header_rest h)) b c → IfSome c.told (λ read. area_of area read ≡ 0 ∷ header_rest h ++ bytes_of_all [])
  begin_bytes h written = told_after area (λ old new. new ≡ 0 ∷ header_rest h ++ bytes_of_all []) (λ bytes. bytes ≡ 0 ∷ header_rest h ++ bytes_of_all []) a c (λ read is l becomes. becomes)
      (reads_then area (Becomes (0 ∷ [])) (Written 1 (header_rest h)) (λ old new. new ≡ 0 ∷ header_rest h ++ bytes_of_all []) a b c
      (λ x y z is wrote. wrote ∙ ap (λ (l : List ℕ). with_bytes 1 (header_rest h) l) is) made written)

pub begin_only : (area : ℕ) (a b : DiskSeen) → Ran area StaysShort a b → Ran area BeginsBlank a b
begin_only area a b ran = ran_as area StaysShort BeginsBlank a b (λ x y stays. λ is. blank_short y (stays is)) ran

-- a draft under its calls
module _ (draft : Draft) (rs : List LogRecord) (a : DiskSeen) (is : IsDraft draft rs a) where
  long : draft.end ≡ 16 + length (bytes_of_all rs)
  long = is.ends

  pub far : 16 ≤ draft.end
  far = omega (arith, is.ends)

  told_long : (read : Image) → a.told ≡ Some read → draft.end ≡ length (area_of draft.area read)
  told_long read told =
      let before : area_of draft.area read ≡ 0 ∷ header_rest draft.header ++ bytes_of_all rs = at_some (λ read. area_of draft.area read ≡ 0 ∷ header_rest draft.header ++ bytes_of_all rs) a.told read told is.bytes in
      omega (arith, is.ends, ap length before)

  pub draft_within : IfSome a.told (λ read. draft.end ≤ length (area_of draft.area read))
  draft_within = if_some (λ read. draft.end ≤ length (area_of draft.area read)) a.told (λ read told. omega (arith, told_long read told))

  pub push_ran : (b : DiskSeen) → Ran draft.area (KeepsFront draft.end) a b → Ran draft.area StaysShut a b
  push_ran b ran = ran_as draft.area (KeepsFront draft.end) StaysShut a b (λ x y keeps. keeps_shut draft.end x y (omega (arith, far)) keeps) ran

  -- a record behind what is there
  pub pushed : (b : DiskSeen) (r : LogRecord) (later : Draft) → later ≡ record { area = draft.area; header = draft.header; end = draft.end + (6 + length r.payload) } → length r.payload < 2 ^ 32 → later.end < 2 ^ 63
      → ReadMoves draft.area (Written draft.end (bytes_of r)) a b → Ran draft.area (KeepsFront draft.end) a b → IsDraft later (rs ++ r ∷ []) b
  pushed b r later same small low written ran = subst (λ (d : Draft). IsDraft d (rs ++ r ∷ []) b) (sym same) record {
    area = is.area;
    version = is.version;
    fits = is.fits;
    low = subst (λ (d : Draft). d.end < 2 ^ 63) same low;
    small = small-push rs r is.small small;
    ends = omega (arith, is.ends, ap length (bytes-push rs r), length-append (bytes_of_all rs) (bytes_of r));
    bytes = told_after draft.area (Written draft.end (bytes_of r)) (λ bytes. bytes ≡ 0 ∷ header_rest draft.header ++ bytes_of_all (rs ++ r ∷ [])) a b
        (λ read told l wrote.
        let before : area_of draft.area read ≡ 0 ∷ header_rest draft.header ++ bytes_of_all rs = at_some (λ read. area_of draft.area read ≡ 0 ∷ header_rest draft.header ++ bytes_of_all rs) a.told read told is.bytes in
        wrote ∙ with_at_end (area_of draft.area read) (bytes_of r) draft.end (told_long read told) ∙ ap (λ (l : List ℕ). l ++ bytes_of r) before
        ∙ append_assoc (0 ∷ header_rest draft.header) (bytes_of_all rs) (bytes_of r) ∙ ap (λ (l : List ℕ). (0 ∷ header_rest draft.header) ++ l) (sym (bytes-push rs r))) written;
    shut = left_after draft.area StartsShut StartsShut StaysShut a b is.shut (λ x y shut stays. stays shut) (push_ran b ran);
  }

  drafted : List ℕ
  drafted = 0 ∷ header_rest draft.header ++ bytes_of_all rs ++ 0 ∷ []

  pub open_first : (b : DiskSeen) → Ran draft.area (KeepsFront draft.end) a b → Ran draft.area (Opens draft.header rs draft.end) a b
  open_first b ran = ran_as draft.area (KeepsFront draft.end) (Opens draft.header rs draft.end) a b
      (λ x y keeps. λ shut. inl (keeps_shut draft.end x y (omega (arith, far)) keeps shut)) ran

  module _ (b : DiskSeen) (written : ReadMoves draft.area (Written draft.end (0 ∷ [])) a b) where
    is_drafted : ReadMoves draft.area (λ old new. new ≡ drafted) a b
    unfolding drafted
    is_drafted = reads_as_at draft.area (Written draft.end (0 ∷ [])) (λ old new. new ≡ drafted) a b
        (λ read told l wrote.
        let before : area_of draft.area read ≡ 0 ∷ header_rest draft.header ++ bytes_of_all rs = at_some (λ read. area_of draft.area read ≡ 0 ∷ header_rest draft.header ++ bytes_of_all rs) a.told read told is.bytes in
        wrote ∙ with_at_end (area_of draft.area read) (0 ∷ []) draft.end (told_long read told) ∙ ap (λ (l : List ℕ). l ++ 0 ∷ []) before) written

    pub open_ran : (c : DiskSeen) → IsDurable draft.area b → Ran draft.area (KeepsFront draft.end) a b → Ran draft.area (Flips 0) b c → Ran draft.area (Opens draft.header rs draft.end) a c
    unfolding drafted
    open_ran c then first second = ran_by draft.area (λ bytes. ⊤) (λ bytes. bytes ≡ drafted) (KeepsFront draft.end) (Flips 0) (Opens draft.header rs draft.end) a b c
        (left_any draft.area a) (left_durable draft.area (λ bytes. bytes ≡ drafted) b then (told_after draft.area (λ old new. new ≡ drafted) (λ bytes. bytes ≡ drafted) a b (λ read told l made. made) is_drafted))
        (λ x y was keeps. λ shut. inl (keeps_shut draft.end x y (omega (arith, far)) keeps shut))
        (λ x y z was known keeps flips. λ shut. flips_opens draft.header rs draft.end z is.version is.fits is.small is.ends (subst (λ (l : List ℕ). Flips 0 l z) known flips))
        first second

    pub open_form : (c : DiskSeen) → ReadMoves draft.area (Written 0 (1 ∷ [])) b c → ReadMoves draft.area (λ old new. Form draft.header rs draft.end new) a c
    unfolding drafted
    open_form c wrote = reads_then draft.area (λ old new. new ≡ drafted) (Written 0 (1 ∷ [])) (λ old new. Form draft.header rs draft.end new) a b c
        (λ x y z known opened. written_opens draft.header rs draft.end x y z is.version is.fits is.small is.ends known opened) is_drafted wrote

-- a log under an append
module _ (h : Header) (area end : ℕ) (r : LogRecord) (small : length r.payload < 2 ^ 32) (a b c : DiskSeen) where
  pub append_ran : IsDurable area a → ReadMoves area (Written (end + 1) (body_of r.kind r.payload ++ 0 ∷ [])) a b → IsDurable area b
      → Ran area (KeepsFront (end + 1)) a b → Ran area (Flips end) b c → Ran area (Adds h end r) a c
  append_ran durable written then first second = ran_known area (KeepsFront (end + 1)) (Flips end) (Adds h end r) (Written (end + 1) (body_of r.kind r.payload ++ 0 ∷ [])) a b c
      (keeps_adds h end r small) (flips_adds h end r small) durable written then first second

  pub append_added : ReadMoves area (Written (end + 1) (body_of r.kind r.payload ++ 0 ∷ [])) a b → ReadMoves area (Written end (1 ∷ [])) b c → ReadMoves area (Added h end (end + (6 + length r.payload)) r) a c
  append_added written opened = reads_then area (Written (end + 1) (body_of r.kind r.payload ++ 0 ∷ [])) (Written end (1 ∷ [])) (Added h end (end + (6 + length r.payload)) r) a b c
      (λ x y z one two. subst (λ (k : ℕ). Added h end k r x z) (omega arith) (opens_adds h end r small x y z one two)) written opened

  pub append_form : IfSome a.told (λ read. IsForm h end (area_of area read)) → ReadMoves area (Added h end (end + (6 + length r.payload)) r) a c → IfSome c.told (λ read. IsForm h (end + (6 + length r.payload)) (area_of area read))
  append_form form added = told_after area (Added h end (end + (6 + length r.payload)) r) (IsForm h (end + (6 + length r.payload))) a c
      (λ read told l add.
      let was : IsForm h end (area_of area read) = at_some (λ read. IsForm h end (area_of area read)) a.told read told form in
      (was.0 ++ r ∷ [], add was.0 was.1)) added

pub append_first : (h : Header) (area end : ℕ) (r : LogRecord) → length r.payload < 2 ^ 32 → (a b : DiskSeen) → Ran area (KeepsFront (end + 1)) a b → Ran area (Adds h end r) a b
append_first h area end r small a b ran = ran_as area (KeepsFront (end + 1)) (Adds h end r) a b (keeps_adds h end r small) ran

-- emptying
abbrev IsOpenGate : List ℕ → Type 0
IsOpenGate bytes = (get_or bytes 0 0 ≡ 1) × (0 < length bytes)

abbrev IsShutGate : List ℕ → Type 0
IsShutGate bytes = get_or bytes 0 0 ≢ 1

module _ (area : ℕ) (a b c : DiskSeen) where
  pub clears_same : Ran area Same a b → Ran area Clears a b
  clears_same ran = ran_as area Same Clears a b (λ x y same. inl same) ran

  pub clears_shut : Ran area Same a b → IsDurable area b → IfSome b.told (λ read. (get_or (area_of area read) 0 0 ≡ 1) × (0 < length (area_of area read))) → Ran area (Flips 0) b c → Ran area Clears a c
  clears_shut first durable gate second = ran_by area (λ bytes. ⊤) IsOpenGate Same (Flips 0) Clears a b c (left_any area a) (left_durable area IsOpenGate b durable gate)
      (λ x y was same. inl same) (λ x y z was gate same flips. subst (λ (l : List ℕ). Clears l z) same (flips_clears y z gate.0 gate.1 flips)) first second

  pub clears_cut : Ran area Clears a b → IsDurable area b → IfSome b.told (λ read. get_or (area_of area read) 0 0 ≢ 1) → Ran area (Cut 0) b c → Ran area Clears a c
  clears_cut first durable gate second = ran_by area (λ bytes. ⊤) IsShutGate Clears (Cut 0) Clears a b c (left_any area a) (left_durable area IsShutGate b durable gate)
      (λ x y was clears. clears) (λ x y z was shut clears cut. inr (cut_blank y z shut cut)) first second

  -- a first byte that was written is read
  pub gate_written : ReadMoves area (Written 0 (0 ∷ [])) b c → IfSome c.told (λ read. get_or (area_of area read) 0 0 ≢ 1)
  gate_written written = told_after area (Written 0 (0 ∷ [])) IsShutGate b c (λ read told l wrote. λ one. absurd (omega (arith, one, ap (λ (l : List ℕ). get_or l 0 0) wrote))) written

-- what is known of the first gate after it was read
module _ (area long : ℕ) (yes : Bool) (a l o : DiskSeen) (first : l.told ≡ a.told) (second : o.told ≡ l.told)
    (value : IfSome a.told (λ read. long ≡ length (area_of area read))) (gate : IfSome l.told (λ read. yes ≡ (get_or (area_of area read) 0 0 == 1))) where
  at_read : (P : List ℕ → Type 0) → ((bytes : List ℕ) → long ≡ length bytes → yes ≡ (get_or bytes 0 0 == 1) → P bytes) → IfSome o.told (λ read. P (area_of area read))
  at_read P gives = if_some (λ read. P (area_of area read)) o.told (λ read is. gives (area_of area read)
      (at_some (λ read. long ≡ length (area_of area read)) a.told read (sym first ∙ sym second ∙ is) value)
      (at_some (λ read. yes ≡ (get_or (area_of area read) 0 0 == 1)) l.told read (sym second ∙ is) gate))

  pub gate_open : 1 < long → yes ≡ true → IfSome o.told (λ read. (get_or (area_of area read) 0 0 ≡ 1) × (0 < length (area_of area read)))
  gate_open some is = at_read IsOpenGate (λ bytes all same. (one (get_or bytes 0 0) (sym is ∙ same), omega (arith, all, some)))
    where
      one : (n : ℕ) → true ≡ (n == 1) → n ≡ 1
      one n test = grind (arith, nat_tests)

  pub gate_shut_read : yes ≡ false → IfSome o.told (λ read. get_or (area_of area read) 0 0 ≢ 1)
  gate_shut_read is = at_read IsShutGate (λ bytes all same. other (get_or bytes 0 0) (sym is ∙ same))
    where
      other : (n : ℕ) → false ≡ (n == 1) → n ≢ 1
      other n test = λ one. absurd (clash (test ∙ ap (λ (k : ℕ). k == 1) one))
        where
          clash : false ≡ true → ⊥
          clash is_true = cc
