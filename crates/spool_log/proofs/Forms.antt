-- The form of an area under the steps of a log.
use Rattle.std.proofs.Common.{◌≡◌, ◌≢◌, ◌⊎◌, inl, inr, ℕ, ◌+◌, ◌≤◌, ◌<◌, ◌^◌, List, [], ◌∷◌, ◌++◌, length, take, drop, get_or, Bool, false, ◌==◌, refl, sym, ◌∙◌, ap, arith, cond}
use Rattle.std.proofs.lemmas.Bool.{cases_eq}
use Rattle.std.proofs.lemmas.Bool.Decides.{nat_tests}
use Rattle.std.proofs.lemmas.List.{take_at, drop_at, take-append-drop, length-append, append_assoc, drop_more}
use Rattle.kumo_disk.specs.Disk.{Written, Cut}
use Rattle.spool_log.specs.declared.head.Header.{Header}
use Rattle.spool_log.specs.declared.head.Start.TheVariants.{Blank}
use Rattle.spool_log.specs.Area.{LogRecord, body_of, bytes_of, bytes_of_all, header_of, header_rest, IsVersion, AreSmall, Form, Adds, Added}
use Rattle.spool_log.specs.Head.{start_of, by_magic, first_wrong, magic, version_in, Clears, StartsShut}
use Rattle.spool_log.specs.Log.{StaysShut}
use Rattle.spool_log.specs.inside.Steps.{KeepsFront, Flipped, Flips}

pub bytes-push : (rs : List LogRecord) (r : LogRecord) → bytes_of_all (rs ++ r ∷ []) ≡ bytes_of_all rs ++ bytes_of r
bytes-push [] r = nothing (bytes_of r)
  where
    nothing : (l : List ℕ) → l ++ [] ≡ l
    nothing [] = refl
    nothing (x ∷ l) = ap (λ (t : List ℕ). x ∷ t) (nothing l)
bytes-push (s ∷ rs) r = ap (λ (l : List ℕ). bytes_of s ++ l) (bytes-push rs r) ∙ sym (append_assoc (bytes_of s) (bytes_of_all rs) (bytes_of r))

pub small-push : (rs : List LogRecord) (r : LogRecord) → AreSmall rs → length r.payload < 2 ^ 32 → AreSmall (rs ++ r ∷ [])
small-push [] r small fits = (fits, tt)
small-push (s ∷ rs) r small fits = (small.0, small-push rs r small.1 fits)

pub front-push : (h : Header) (rs : List LogRecord) (r : LogRecord) → header_of h ++ bytes_of_all (rs ++ r ∷ []) ≡ (header_of h ++ bytes_of_all rs) ++ bytes_of r
front-push h rs r = ap (λ (l : List ℕ). header_of h ++ l) (bytes-push rs r) ∙ sym (append_assoc (header_of h) (bytes_of_all rs) (bytes_of r))

module _ (h : Header) (rs : List LogRecord) (end : ℕ) where
  front : List ℕ
  front = header_of h ++ bytes_of_all rs

  -- a list that begins so is the front and a gate
  pub form_kept : (b c : List ℕ) → Form h rs end b → KeepsFront (end + 1) b c → Form h rs end c
  unfolding front
  form_kept b c form keeps =
      let long : length (front ++ form.gate ∷ []) ≡ end + 1 = omega (arith, form.ends, length-append front (form.gate ∷ [])) in
      let whole : b ≡ (front ++ form.gate ∷ []) ++ form.rest = form.split ∙ sym (append_assoc front (form.gate ∷ []) form.rest) in
      let kept = keeps (end + 1) (omega arith) (omega (arith, ap length whole, length-append (front ++ form.gate ∷ []) form.rest, long)) in
      let first : take (end + 1) c ≡ front ++ form.gate ∷ [] = kept.1 ∙ ap (λ (l : List ℕ). take (end + 1) l) whole ∙ take_at (front ++ form.gate ∷ []) form.rest (end + 1) long in
      record {
        gate = form.gate;
        rest = drop (end + 1) c;
        split = sym (take-append-drop (end + 1) c) ∙ ap (λ (l : List ℕ). l ++ drop (end + 1) c) first ∙ append_assoc front (form.gate ∷ []) (drop (end + 1) c);
        shut = form.shut;
        ends = form.ends;
        version = form.version;
        fits = form.fits;
        small = form.small;
      }

  module _ (r : LogRecord) (small : length r.payload < 2 ^ 32) where
    abbrev staged_bytes : List ℕ
    staged_bytes = body_of r.kind r.payload ++ 0 ∷ []

    -- a record and a closed gate stand behind a gate that is not open
    record Staged (c : List ℕ) : Type 0 where
      pub gate : ℕ
      pub rest : List ℕ
      pub split : c ≡ front ++ gate ∷ (body_of r.kind r.payload ++ 0 ∷ rest)
      pub shut : gate ≢ 1
      pub ends : end ≡ length front
      pub version : IsVersion h.version
      pub fits : h.generation < 2 ^ 64
      pub others : AreSmall rs

    staged : (b c : List ℕ) → Form h rs end b → Written (end + 1) staged_bytes b c → Staged c
    unfolding front
    staged b c form written =
        let long : length (front ++ form.gate ∷ []) ≡ end + 1 = omega (arith, form.ends, length-append front (form.gate ∷ [])) in
        let whole : b ≡ (front ++ form.gate ∷ []) ++ form.rest = form.split ∙ sym (append_assoc front (form.gate ∷ []) form.rest) in
        let first : take (end + 1) b ≡ front ++ form.gate ∷ [] = ap (λ (l : List ℕ). take (end + 1) l) whole ∙ take_at (front ++ form.gate ∷ []) form.rest (end + 1) long in
        let rest : List ℕ = drop (end + 1 + length staged_bytes) b in
        record {
          gate = form.gate;
          rest = rest;
          split = written ∙ ap (λ (l : List ℕ). l ++ staged_bytes ++ rest) first
              ∙ append_assoc (front ++ form.gate ∷ []) staged_bytes rest
              ∙ ap (λ (l : List ℕ). (front ++ form.gate ∷ []) ++ l) (append_assoc (body_of r.kind r.payload) (0 ∷ []) rest)
              ∙ append_assoc front (form.gate ∷ []) (body_of r.kind r.payload ++ 0 ∷ rest);
          shut = form.shut;
          ends = form.ends;
          version = form.version;
          fits = form.fits;
          others = form.small;
        }

    -- with its gate open the record counts
    opened : (c : List ℕ) (s : Staged c) (f : List ℕ) → f ≡ front ++ 1 ∷ (body_of r.kind r.payload ++ 0 ∷ s.rest) → Form h (rs ++ r ∷ []) (end + length (bytes_of r)) f
    unfolding front
    opened c s f is = record {
      gate = 0;
      rest = s.rest;
      split = is ∙ sym (append_assoc front (bytes_of r) (0 ∷ s.rest)) ∙ ap (λ (l : List ℕ). l ++ 0 ∷ s.rest) (sym (front-push h rs r));
      shut = λ is. absurd (omega (arith, is));
      ends = omega (arith, s.ends, ap length (front-push h rs r), length-append front (bytes_of r));
      version = s.version;
      fits = s.fits;
      small = small-push rs r s.others small;
    }

    closed : (c : List ℕ) (s : Staged c) (f : List ℕ) (gate : ℕ) → gate ≢ 1 → f ≡ front ++ gate ∷ (body_of r.kind r.payload ++ 0 ∷ s.rest) → Form h rs end f
    unfolding front
    closed c s f gate shut is = record {
      gate = gate;
      rest = body_of r.kind r.payload ++ 0 ∷ s.rest;
      split = is;
      shut = shut;
      ends = s.ends;
      version = s.version;
      fits = s.fits;
      small = s.others;
    }

    flipped : (c f : List ℕ) (s : Staged c) → Flips end c f → f ≡ front ++ get_or f end 0 ∷ (body_of r.kind r.payload ++ 0 ∷ s.rest)
    unfolding front
    flipped c f s flips =
        let back : List ℕ = body_of r.kind r.payload ++ 0 ∷ s.rest in
        let within : end < length c = omega (arith, s.ends, ap length s.split, length-append front (s.gate ∷ back)) in
        let flip = flips within in
        let before : take end f ≡ front = flip.before ∙ ap (λ (l : List ℕ). take end l) s.split ∙ take_at front (s.gate ∷ back) end (sym s.ends) in
        let whole : c ≡ (front ++ s.gate ∷ []) ++ back = s.split ∙ sym (append_assoc front (s.gate ∷ []) back) in
        let after : drop (end + 1) f ≡ back = flip.after ∙ ap (λ (l : List ℕ). drop (end + 1) l) whole
        ∙ drop_at (front ++ s.gate ∷ []) back (end + 1) (omega (arith, s.ends, length-append front (s.gate ∷ []))) in
        sym (take-append-drop end f) ∙ ap (λ (l : List ℕ). l ++ drop end f) before
        ∙ ap (λ (l : List ℕ). front ++ l) (drop_more f end 0 (omega (arith, within, flip.long)) ∙ ap (λ (l : List ℕ). get_or f end 0 ∷ l) after)

    form_flipped : (c f : List ℕ) → Staged c → Flips end c f → Form h rs end f ⊎ Form h (rs ++ r ∷ []) (end + length (bytes_of r)) f
    unfolding front
    form_flipped c f s flips =
        let is = flipped c f s flips in
        elim (cases_eq (get_or f end 0) 1) as (λ _. Form h rs end f ⊎ Form h (rs ++ r ∷ []) (end + length (bytes_of r)) f) [
          | inl one ↦ inr (opened c s f (is ∙ ap (λ (k : ℕ). front ++ k ∷ (body_of r.kind r.payload ++ 0 ∷ s.rest)) one))
          | inr other ↦ inl (closed c s f (get_or f end 0) other is)
        ]

    form_opened : (c f : List ℕ) → Staged c → Written end (1 ∷ []) c f → Form h (rs ++ r ∷ []) (end + length (bytes_of r)) f
    unfolding front
    form_opened c f s written =
        let back : List ℕ = body_of r.kind r.payload ++ 0 ∷ s.rest in
        let whole : c ≡ (front ++ s.gate ∷ []) ++ back = s.split ∙ sym (append_assoc front (s.gate ∷ []) back) in
        let before : take end c ≡ front = ap (λ (l : List ℕ). take end l) s.split ∙ take_at front (s.gate ∷ back) end (sym s.ends) in
        let after : drop (end + 1) c ≡ back = ap (λ (l : List ℕ). drop (end + 1) l) whole
        ∙ drop_at (front ++ s.gate ∷ []) back (end + 1) (omega (arith, s.ends, length-append front (s.gate ∷ []))) in
        opened c s f (written ∙ ap (λ (l : List ℕ). l ++ 1 ∷ [] ++ drop (end + 1) c) before ∙ ap (λ (l : List ℕ). front ++ 1 ∷ [] ++ l) after ∙ append_assoc front (1 ∷ []) back)

-- an append in two steps: the record behind the closed gate, then the gate
module _ (h : Header) (end : ℕ) (r : LogRecord) (small : length r.payload < 2 ^ 32) where
  pub keeps_adds : (b c : List ℕ) → KeepsFront (end + 1) b c → Adds h end r b c
  keeps_adds b c keeps = λ rs form. inl (form_kept h rs end b c form keeps)

  pub flips_adds : (b c f : List ℕ) → Written (end + 1) (body_of r.kind r.payload ++ 0 ∷ []) b c → Flips end c f → Adds h end r b f
  flips_adds b c f written flips = λ rs form. form_flipped h rs end r small c f (staged h rs end r small b c form written) flips

  pub opens_adds : (b c f : List ℕ) → Written (end + 1) (body_of r.kind r.payload ++ 0 ∷ []) b c → Written end (1 ∷ []) c f → Added h end (end + length (bytes_of r)) r b f
  opens_adds b c f written opens = λ rs form. form_opened h rs end r small c f (staged h rs end r small b c form written) opens

pub length_record : (kind : ℕ) (payload : List ℕ) → length (bytes_of (record { kind = kind; payload = payload })) ≡ 6 + length payload
length_record kind payload = omega arith

-- headers and drafts
shut_blank : (gate b : ℕ) (rest : List ℕ) → gate ≢ 1 → start_of (gate ∷ b ∷ rest) ≡ Blank
shut_blank gate b rest shut = ap (λ (t : Bool). cond t (by_magic (first_wrong (magic (version_in (gate ∷ b ∷ rest))) 1 (b ∷ rest)) (gate ∷ b ∷ rest)) Blank) (test gate shut)
  where
    test : (g : ℕ) → g ≢ 1 → (g == 1) ≡ false
    test g not_one = grind (arith, nat_tests)

pub blank_gate : (f : List ℕ) → get_or f 0 0 ≢ 1 → start_of f ≡ Blank
blank_gate [] shut = refl
blank_gate (gate ∷ []) shut = refl
blank_gate (gate ∷ b ∷ rest) shut = shut_blank gate b rest shut

pub blank_short : (f : List ℕ) → length f ≤ 1 → start_of f ≡ Blank
blank_short [] short = refl
blank_short (gate ∷ []) short = refl
blank_short (gate ∷ b ∷ rest) short = absurd (omega (arith, short))

pub blank_shut : (f : List ℕ) → StartsShut f → start_of f ≡ Blank
blank_shut f shut = blank_gate f shut.1

-- a first gate stays while what begins with it does
pub keeps_shut : (k : ℕ) (b c : List ℕ) → 1 ≤ k → KeepsFront k b c → StaysShut b c
keeps_shut k b c room keeps = λ shut.
    let kept = keeps 1 room shut.0 in
    (kept.0, λ one. shut.1 (sym (first b c kept.1 shut.0 kept.0) ∙ one))
  where
    first : (x y : List ℕ) → take 1 y ≡ take 1 x → 1 ≤ length x → 1 ≤ length y → get_or y 0 0 ≡ get_or x 0 0
    first [] y same one two = absurd (omega (arith, one))
    first (a ∷ x) [] same one two = absurd (omega (arith, two))
    first (a ∷ x) (c ∷ y) same one two = ap (λ (l : List ℕ). get_or l 0 0) same

-- the first gate of known bytes opened
pub flips_opens : (h : Header) (rs : List LogRecord) (end : ℕ) (f : List ℕ) → IsVersion h.version → h.generation < 2 ^ 64 → AreSmall rs → end ≡ 16 + length (bytes_of_all rs)
    → Flips 0 (0 ∷ header_rest h ++ bytes_of_all rs ++ 0 ∷ []) f → StartsShut f ⊎ Form h rs end f
flips_opens h rs end f version fits small ends flips = by f (flips (omega arith))
  where
    form : (x : ℕ) (g : List ℕ) → x ≡ 1 → g ≡ header_rest h ++ bytes_of_all rs ++ 0 ∷ [] → Form h rs end (x ∷ g)
    form x g one is = record {
      gate = 0;
      rest = [];
      split = ap (λ (k : ℕ). k ∷ g) one ∙ ap (λ (l : List ℕ). 1 ∷ l) is;
      shut = λ is. absurd (omega (arith, is));
      ends = omega (arith, ends);
      version = version;
      fits = fits;
      small = small;
    }

    by : (f : List ℕ) → Flipped 0 (0 ∷ header_rest h ++ bytes_of_all rs ++ 0 ∷ []) f → StartsShut f ⊎ Form h rs end f
    by [] one_flip = absurd (omega (arith, one_flip.long))
    by (x ∷ g) one_flip = elim (cases_eq x 1) as (λ _. StartsShut (x ∷ g) ⊎ Form h rs end (x ∷ g)) [
      | inl one ↦ inr (form x g one one_flip.after)
      | inr other ↦ inl (omega arith, other)
    ]

pub written_opens : (h : Header) (rs : List LogRecord) (end : ℕ) (b c f : List ℕ) → IsVersion h.version → h.generation < 2 ^ 64 → AreSmall rs → end ≡ 16 + length (bytes_of_all rs)
    → c ≡ 0 ∷ header_rest h ++ bytes_of_all rs ++ 0 ∷ [] → Written 0 (1 ∷ []) c f → Form h rs end f
written_opens h rs end b c f version fits small ends is written = record {
  gate = 0;
  rest = [];
  split = written ∙ ap (λ (l : List ℕ). 1 ∷ drop 1 l) is;
  shut = λ is. absurd (omega (arith, is));
  ends = omega (arith, ends);
  version = version;
  fits = fits;
  small = small;
}

-- emptying
pub cut_blank : (b f : List ℕ) → get_or b 0 0 ≢ 1 → Cut 0 b f → start_of f ≡ Blank
cut_blank b [] shut cut = refl
cut_blank [] (x ∷ f) shut cut = absurd (let none : [] ≡ x ∷ f = cut.front in cc)
cut_blank (a ∷ b) (x ∷ f) shut cut = blank_gate (x ∷ f) (λ one. shut (ap (λ (l : List ℕ). get_or l 0 0) cut.front ∙ one))

pub flips_clears : (b f : List ℕ) → get_or b 0 0 ≡ 1 → 0 < length b → Flips 0 b f → Clears b f
flips_clears [] f one some flips = absurd (omega (arith, some))
flips_clears (a ∷ b) [] one some flips = absurd (omega (arith, (flips some).long))
flips_clears (a ∷ b) (x ∷ f) one some flips =
    let after : f ≡ b = (flips some).after in
    elim (cases_eq x 1) as (λ _. Clears (a ∷ b) (x ∷ f)) [
      | inl is ↦ inl (let same : x ≡ a = is ∙ sym one in cc)
      | inr other ↦ inr (blank_gate (x ∷ f) other)
    ]
