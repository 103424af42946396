-- Going back over a call that a disk in memory kept.
use Rattle.std.proofs.Common.{◌≡◌, ◌≢◌, ℕ, ◌+◌, ◌-◌, ◌≤◌, ◌<◌, zero, suc, List, [], ◌++◌, length, take, drop, refl, sym, ◌∙◌, ap, subst, arith, min}
use Rattle.std.proofs.lemmas.List.{take-append-drop, drop-drop, length-take-le, append-nil, append_assoc, length-append, length-drop, take_min}
use Rattle.std.proofs.Math.Seq.{drop-append-add, drop-append_seam, take-append_seam, drop-length, take-length}
use Rattle.kumo_disk.specs.Disk.{Image, area_of, with_bytes, Moved, Torn, Cut}
use Rattle.kumo_disk.specs.Memory.{with_area, before_call, undone}
use Rattle.kumo_disk.specs.declared.kept_call.KeptCall.{KeptCall}

pub this_area : (area : ℕ) (bytes : List ℕ) (image : Image) → area < 2 → area_of area (with_area area bytes image) ≡ bytes
this_area zero bytes image here = refl
this_area (suc zero) bytes image here = refl
this_area (suc (suc area)) bytes image here = absurd (omega (arith, here))

pub other_area : (area other : ℕ) (bytes : List ℕ) (image : Image) → other ≢ area → area_of other (with_area area bytes image) ≡ area_of other image
other_area zero zero bytes image differs = absurd (differs refl)
other_area zero (suc other) bytes image differs = by other
  where
    by : (other : ℕ) → area_of (suc other) (with_area zero bytes image) ≡ area_of (suc other) image
    by zero = refl
    by (suc other) = refl
other_area (suc zero) zero bytes image differs = refl
other_area (suc zero) (suc zero) bytes image differs = absurd (differs refl)
other_area (suc zero) (suc (suc other)) bytes image differs = refl
other_area (suc (suc area)) other bytes image differs = refl

pub put_back : (area : ℕ) (old new : List ℕ) (image : Image) → old ≡ area_of area image → with_area area old (with_area area new image) ≡ image
put_back zero old new image is = ap (λ (l : List ℕ). record { first = l; second = image.second }) is
put_back (suc zero) old new image is = ap (λ (l : List ℕ). record { first = image.first; second = l }) is
put_back (suc (suc area)) old new image is = refl

pub with_same : (area : ℕ) (bytes : List ℕ) (image : Image) → bytes ≡ area_of area image → with_area area bytes image ≡ image
with_same zero bytes image is = ap (λ (l : List ℕ). record { first = l; second = image.second }) is
with_same (suc zero) bytes image is = ap (λ (l : List ℕ). record { first = image.first; second = l }) is
with_same (suc (suc area)) bytes image is = refl

three_parts : (a b c d e f : List ℕ) → a ≡ d → b ≡ e → c ≡ f → a ++ b ++ c ≡ d ++ e ++ f
three_parts a b c d e f first second third = cc

-- what stands before and behind bytes that were put in
pub front_of : (at : ℕ) (old rest : List ℕ) → at ≤ length old → take at (take at old ++ rest) ≡ take at old
front_of at old rest within = ap (λ (k : ℕ). take k (take at old ++ rest)) (sym (length-take-le at old within)) ∙ take-append_seam (take at old) rest

pub behind_of : (at : ℕ) (old bytes rest : List ℕ) → at ≤ length old → drop (at + length bytes) (take at old ++ bytes ++ rest) ≡ rest
behind_of at old bytes rest within =
    ap (λ (k : ℕ). drop (k + length bytes) (take at old ++ bytes ++ rest)) (sym (length-take-le at old within))
    ∙ ap (drop (length (take at old) + length bytes)) (append_assoc (take at old) bytes rest)
    ∙ drop-append-add (take at old) (bytes ++ rest) (length bytes) ∙ drop-append_seam bytes rest

whole : (at n : ℕ) (old : List ℕ) → take at old ++ take n (drop at old) ++ drop (at + n) old ≡ old
whole at n old =
    ap (λ (l : List ℕ). take at old ++ take n (drop at old) ++ l) (sym (drop-drop n at old))
    ∙ append_assoc (take at old) (take n (drop at old)) (drop n (drop at old))
    ∙ ap (λ (l : List ℕ). take at old ++ l) (take-append-drop n (drop at old)) ∙ take-append-drop at old

pub back_write : (at n : ℕ) (replaced bytes old : List ℕ) → at ≤ length old → n ≡ length bytes → replaced ≡ take n (drop at old)
    → take at (with_bytes at bytes old) ++ replaced ++ drop (at + n) (with_bytes at bytes old) ≡ old
back_write at n replaced bytes old within long is =
    three_parts _ _ _ _ _ _ (ap (take at) (append_assoc (take at old) bytes (drop (at + length bytes) old)) ∙ front_of at old (bytes ++ drop (at + length bytes) old) within) is
    (ap (λ (k : ℕ). drop (at + k) (with_bytes at bytes old)) long ∙ behind_of at old bytes (drop (at + length bytes) old) within
    ∙ ap (λ (k : ℕ). drop (at + k) old) (sym long))
    ∙ whole at n old

pub back_same : (at : ℕ) (old : List ℕ) → take at old ++ [] ++ drop (at + 0) old ≡ old
back_same at old = whole at 0 old

pub back_cut : (end : ℕ) (replaced old : List ℕ) → end ≤ length old → replaced ≡ take (length old - end) (drop end old)
    → take end (take end old) ++ replaced ++ drop (end + 0) (take end old) ≡ old
back_cut end replaced old within is =
    let front : take end (take end old) ≡ take end old = ap (take end) (sym (append-nil (take end old))) ∙ front_of end old [] within in
    let behind : drop (end + 0) (take end old) ≡ [] = ap (drop (end + 0)) (sym (append-nil (take end old)) ∙ sym (append-nil (take end old ++ []))) ∙ behind_of end old [] [] within in
    let none : drop (end + (length old - end)) old ≡ [] = ap (λ (k : ℕ). drop k old) (let same : end + (length old - end) ≡ length old = omega (arith, within) in same) ∙ drop-length old in
    three_parts _ _ _ _ _ _ front is (behind ∙ sym none) ∙ whole end (length old - end) old

pub goes_back_by : (call : KeptCall) (next : List ℕ) (old new : Image) → call.area < 2 → new ≡ with_area call.area next old → before_call call next ≡ area_of call.area old → undone call new ≡ old
goes_back_by call next old new here is was =
    ap (undone call) is
    ∙ ap (λ (l : List ℕ). with_area call.area (before_call call l) (with_area call.area next old)) (this_area call.area next old here)
    ∙ put_back call.area (before_call call next) next old was

-- a piece of what is read, by what a call answered
pub piece_read : (end : ℕ) (a b read piece : List ℕ) → a ≡ read → b ≡ read → piece ≡ take (length b - end) (drop end a) → piece ≡ take (length read - end) (drop end read)
piece_read end a b read piece one two is = cc

pub moved_by : (area : ℕ) (step : List ℕ → List ℕ → Type 0) (next : List ℕ) (old new : Image) → area < 2 → new ≡ with_area area next old → step (area_of area old) next → Moved area step old new
moved_by area step next old new here is made = subst (λ (i : Image). Moved area step old i) (sym is)
    (record { here = subst (λ (l : List ℕ). step (area_of area old) l) (sym (this_area area next old here)) made; elsewhere = λ other differs. other_area area other next old differs })

pub torn_same : (at n end : ℕ) (d : List ℕ) → Torn at n end d d
torn_same at n end d = record { before = take_min at d; after = λ within. refl; no_shorter = omega arith; no_longer = omega arith }

pub torn_made : (at : ℕ) (bytes old : List ℕ) → at ≤ length old → Torn at (length bytes) (length old) old (with_bytes at bytes old)
torn_made at bytes old within = record {
  before = ap (λ (k : ℕ). take k (with_bytes at bytes old)) (let least : min at (length old) ≡ at = omega (arith, within) in least)
      ∙ ap (take at) (append_assoc (take at old) bytes (drop (at + length bytes) old)) ∙ front_of at old (bytes ++ drop (at + length bytes) old) within;
  after = λ inside. behind_of at old bytes (drop (at + length bytes) old) within;
  no_shorter = omega (arith, long, within);
  no_longer = omega (arith, long, within);
}
  where
    long : length (with_bytes at bytes old) ≡ at + length bytes + (length old - (at + length bytes))
    long = length-append (take at old ++ bytes) (drop (at + length bytes) old)
        ∙ sum (length (take at old ++ bytes)) (at + length bytes) _ _ (length-append (take at old) bytes ∙ ap (λ (k : ℕ). k + length bytes) (length-take-le at old within)) (length-drop (at + length bytes) old)
      where
        sum : (a b c d : ℕ) → a ≡ b → c ≡ d → a + c ≡ b + d
        sum a b c d one two = cc

pub cut_same : (end : ℕ) (d : List ℕ) → Cut end d d
cut_same end d = record { no_shorter = omega arith; front = take-length d }

pub cut_made : (end : ℕ) (old : List ℕ) → end ≤ length old → Cut end old (take end old)
cut_made end old within = record {
  no_shorter = omega (arith, length-take-le end old within, within);
  front = ap (λ (k : ℕ). take k old) (length-take-le end old within);
}
