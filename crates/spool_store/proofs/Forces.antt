-- The area in force, and what it stands for.
use Rattle.std.proofs.Common.{◌≡◌, ◌≢◌, inl, inr, ℕ, zero, suc, ◌+◌, ◌%◌, ◌≤◌, ◌<◌, ◌^◌, List, [], ◌∷◌, ◌++◌, length, Option, Some, None, refl, sym, ◌∙◌, subst, ap, arith}
use Rattle.std.specs.Int.{from_be_bytes, to_be_bytes, w64}
use Rattle.std.proofs.lemmas.Nat.{from_be_bytes-to_be_bytes_8}
use Rattle.std.proofs.lemmas.Bool.Decides.{nat_tests}
use Rattle.std.proofs.lemmas.List.{append_assoc, length-append}
use Rattle.kumo_disk.specs.Disk.{Image, area_of}
use Rattle.spool_log.specs.Area.{LogRecord, bytes_of, bytes_of_all, header_of, Form, IsVersion}
use Rattle.spool_log.specs.Head.{start_of, header_in, version_by, by_length}
use Rattle.spool_log.specs.declared.head.Header.{Header}
use Rattle.spool_log.specs.declared.head.Start.TheVariants.{Headed}
use Rattle.spool_log.proofs.Headers.{by_length_long}
use Rattle.spool_store.specs.Content.{Item, after, and_then, played}
use Rattle.spool_store.specs.Reading.{Reading, Sound, IsSound, Walks, Force, InForce, by_generation, force_in, by_force, Reads}
use Rattle.spool_store.specs.Standing.{Standing}

abbrev header : ℕ → ℕ → Header
header version generation = record { version = version; generation = generation }

-- a header says what it was written with
header_says : (h : Header) (rest : List ℕ) → IsVersion h.version → h.generation < 2 ^ 64 → header_in (header_of h ++ rest) ≡ h
header_says h rest version fits = by h.version h.generation (known h.version version) (from_be_bytes-to_be_bytes_8 h.generation fits)
  where
    known : (v : ℕ) → IsVersion v → version_by v ≡ v
    known v (inl one) = ap version_by one ∙ sym one
    known v (inr two) = ap version_by two ∙ sym two

    by : (v g : ℕ) → version_by v ≡ v → from_be_bytes w64 (to_be_bytes w64 g) ≡ g → header (version_by v) (from_be_bytes w64 (to_be_bytes w64 g)) ≡ header v g
    by v g one two = cc

start_header : (h : Header) (rest : List ℕ) → IsVersion h.version → h.generation < 2 ^ 64 → 1 ≤ length rest → start_of (header_of h ++ rest) ≡ Headed h
start_header h rest version fits some =
    magic_right h.version version
    ∙ by_length_long (header_of h ++ rest) (omega (arith, some, length-append (header_of h) rest)) ∙ ap (λ (k : Header). Headed k) (header_says h rest version fits)
  where
    magic_right : (v : ℕ) → IsVersion v → start_of ((1 ∷ 75 ∷ 83 ∷ 80 ∷ v ∷ 0 ∷ 0 ∷ 0 ∷ to_be_bytes w64 h.generation) ++ rest) ≡ by_length ((1 ∷ 75 ∷ 83 ∷ 80 ∷ v ∷ 0 ∷ 0 ∷ 0 ∷ to_be_bytes w64 h.generation) ++ rest)
    magic_right v (inl one) = subst (λ (k : ℕ). start_of ((1 ∷ 75 ∷ 83 ∷ 80 ∷ k ∷ 0 ∷ 0 ∷ 0 ∷ to_be_bytes w64 h.generation) ++ rest) ≡ by_length ((1 ∷ 75 ∷ 83 ∷ 80 ∷ k ∷ 0 ∷ 0 ∷ 0 ∷ to_be_bytes w64 h.generation) ++ rest)) (sym one) refl
    magic_right v (inr two) = subst (λ (k : ℕ). start_of ((1 ∷ 75 ∷ 83 ∷ 80 ∷ k ∷ 0 ∷ 0 ∷ 0 ∷ to_be_bytes w64 h.generation) ++ rest) ≡ by_length ((1 ∷ 75 ∷ 83 ∷ 80 ∷ k ∷ 0 ∷ 0 ∷ 0 ∷ to_be_bytes w64 h.generation) ++ rest)) (sym two) refl

module _ (h : Header) (rs : List LogRecord) (end : ℕ) (area : List ℕ) (form : Form h rs end area) where
  parts : area ≡ header_of h ++ (bytes_of_all rs ++ form.gate ∷ form.rest)
  parts = form.split ∙ append_assoc (header_of h) (bytes_of_all rs) (form.gate ∷ form.rest)

  pub start_form : start_of area ≡ Headed h
  start_form = ap start_of parts ∙ start_header h (bytes_of_all rs ++ form.gate ∷ form.rest) form.version form.fits (omega (arith, length-append (bytes_of_all rs) (form.gate ∷ form.rest)))

  pub header_form : header_in area ≡ h
  header_form = ap header_in parts ∙ header_says h (bytes_of_all rs ++ form.gate ∷ form.rest) form.version form.fits

pub played_push : (v at : ℕ) (ms ns os : List Item) (rs : List LogRecord) (r : LogRecord) → played v at ms rs ≡ Some ns → after v (at + length (bytes_of_all rs)) ns r ≡ Some os → played v at ms (rs ++ r ∷ []) ≡ Some os
played_push v at ms ns os [] r plays gives =
    let same : ms ≡ ns = cc in
    let here : after v at ms r ≡ Some os = ap (λ (l : List Item). after v at l r) same ∙ ap (λ (k : ℕ). after v k ns r) (omega arith) ∙ gives in
    ap (λ (o : Option (List Item)). and_then o (λ l. Some l)) here
played_push v at ms ns os (s ∷ rs) r plays gives =
    by (after v at ms s) (λ m is. played_push v (at + length (bytes_of s)) m ns os rs r is
    (ap (λ (k : ℕ). after v k ns r) (omega (arith, length-append (bytes_of s) (bytes_of_all rs))) ∙ gives)) plays
  where
    by : (o : Option (List Item)) → ((m : List Item) → played v (at + length (bytes_of s)) m rs ≡ Some ns → played v (at + length (bytes_of s)) m (rs ++ r ∷ []) ≡ Some os)
        → and_then o (λ l. played v (at + length (bytes_of s)) l rs) ≡ Some ns → and_then o (λ l. played v (at + length (bytes_of s)) l (rs ++ r ∷ [])) ≡ Some os
    by None rest is = cc
    by (Some m) rest is = rest m is

pub is_sound : (h : Header) (rs : List LogRecord) (end : ℕ) (items : List Item) (area : List ℕ) → Form h rs end area → played h.version 16 [] rs ≡ Some items → IsSound items area
is_sound h rs end items area form plays =
    let same : h ≡ header_in area = sym (header_form h rs end area form) in
    record { rs = rs; end = end; form = subst (λ (k : Header). Form k rs end area) same form; plays = subst (λ (k : Header). played k.version 16 [] rs ≡ Some items) same plays }

in_force_walks : (n : ℕ) (image : Image) (r : Reading) → n < 2 → Walks n (area_of n image) r → by_force (InForce n) image r
in_force_walks zero image r lt walks = walks
in_force_walks (suc zero) image r lt walks = walks
in_force_walks (suc (suc n)) image r lt walks = absurd (omega (arith, lt))

pub reads_walk : (n : ℕ) (image : Image) (r : Reading) → n < 2 → force_in image ≡ InForce n → Walks n (area_of n image) r → Reads image r
reads_walk n image r lt is walks = subst (λ (f : Force). by_force f image r) (sym is) (in_force_walks n image r lt walks)

-- an area in force with its records is read so
pub standing_reads : (area end : ℕ) (h : Header) (items : List Item) (image : Image) → area < 2 → Standing area h end items image → Reads image (Sound items)
standing_reads area end h items image lt s = reads_walk area image (Sound items) lt s.in_force (is_sound h s.rs end items (area_of area image) s.form s.plays)

-- the generation that follows is in force
pub next_in_force : (g : ℕ) → by_generation g ((g + 1) % 2 ^ 64) ≡ InForce 1
next_in_force g = grind (arith, nat_tests)

pub next_in_force_first : (g : ℕ) → g < 2 ^ 64 → by_generation ((g + 1) % 2 ^ 64) g ≡ InForce 0
next_in_force_first g fits = second (differs g fits)
  where
    differs : (g : ℕ) → g < 2 ^ 64 → ((g + 1) % 2 ^ 64 + 1) % 2 ^ 64 ≢ g
    differs g fits = λ is. absurd (omega (arith, is, fits))

    second : ((g + 1) % 2 ^ 64 + 1) % 2 ^ 64 ≢ g → by_generation ((g + 1) % 2 ^ 64) g ≡ InForce 0
    second other = grind (arith, nat_tests)
