-- What calls of the disk do to the bytes of one area, one after the other.
use Rattle.std.proofs.Common.{◌≡◌, ℕ, zero, suc, ◌+◌, ◌≤◌, ◌<◌, min, List, [], ◌∷◌, ◌++◌, length, take, drop, IfSome, Result, Ok, Err, OnOk, refl, sym, ◌∙◌, subst, ap, arith}
use Rattle.std.proofs.lemmas.List.{take_at, take-take, drop-drop, take_all, length-take-le, length-append, length-drop, append_assoc}
use Rattle.std.proofs.Math.Seq.{drop-append-add}
use Rattle.kumo_disk.specs.Disk.{area_of, DiskSeen, Lasts, Each, ReadMoves, Same, Written, with_bytes, Torn, Cut}
use Rattle.kumo_disk.specs.Calls.{Ran}
use Rattle.kumo_disk.proofs.Runs.{at_some, if_some, ran_then, ran_same, ran_write}
use Rattle.kumo_disk.proofs.Known.{reads_then_at, told_after}
use Rattle.spool_log.specs.inside.Steps.{KeepsFront, Flips, StaysShort}

pub keeps_same : (k : ℕ) (d : List ℕ) → KeepsFront k d d
keeps_same k d = λ j le short. (short, refl)

pub keeps_then : (k : ℕ) (d e f : List ℕ) → KeepsFront k d e → KeepsFront k e f → KeepsFront k d f
keeps_then k d e f first second = λ j le short.
    let one = first j le short in
    let two = second j le one.0 in
    (two.0, two.1 ∙ one.1)

pub keeps_less : (k m : ℕ) (d e : List ℕ) → k ≤ m → KeepsFront m d e → KeepsFront k d e
keeps_less k m d e less keeps = λ j le short. keeps j (omega (arith, le, less)) short

pub torn_keeps : (at n end : ℕ) (old new : List ℕ) → Torn at n end old new → KeepsFront at old new
torn_keeps at n end old new torn = λ j le short.
    let least : j ≤ min at (length old) = omega (arith, le, short) in
    (omega (arith, short, torn.no_shorter), sym (take-take j (min at (length old)) new least) ∙ ap (λ (l : List ℕ). take j l) torn.before ∙ take-take j at old le)

pub flips_torn : (at end : ℕ) (old new : List ℕ) → at + 1 ≤ end → Torn at 1 end old new → Flips at old new
flips_torn at end old new room torn = λ within.
    let all : min at (length old) ≡ at = omega (arith, within) in
    record {
      before = ap (λ (k : ℕ). take k new) (sym all) ∙ torn.before;
      after = torn.after room;
      long = omega (arith, torn.no_shorter, torn.no_longer, within);
    }

pub flips_same : (at : ℕ) (d : List ℕ) → Flips at d d
flips_same at d = λ within. record { before = refl; after = refl; long = refl }

pub short_torn : (end : ℕ) (d e : List ℕ) → Torn 0 1 end d e → StaysShort d e
short_torn end d e torn = λ short. omega (arith, short, torn.no_longer)

pub short_cut : (n : ℕ) (d e : List ℕ) → Cut n d e → StaysShort d e
short_cut n d e cut = λ short.
    let front : take (length e) d ≡ e = cut.front in
    omega (arith, short, ap length front, length-take-min (length e) d)
  where
    length-take-min : (k : ℕ) (l : List ℕ) → length (take k l) ≤ length l
    length-take-min zero l = omega arith
    length-take-min (suc k) [] = omega arith
    length-take-min (suc k) (x ∷ l) = omega (arith, length-take-min k l)

-- bytes written behind bytes written
pub with_more : (old : List ℕ) (at : ℕ) (x y : List ℕ) → at ≤ length old → with_bytes (at + length x) y (with_bytes at x old) ≡ with_bytes at (x ++ y) old
with_more old at x y within =
    let p : List ℕ = take at old ++ x in
    let long : length p ≡ at + length x = length-append (take at old) x ∙ ap (λ (k : ℕ). k + length x) (length-take-le at old within) in
    let front : take (at + length x) (p ++ drop (at + length x) old) ≡ p = take_at p (drop (at + length x) old) (at + length x) long in
    let back : drop (at + length x + length y) (p ++ drop (at + length x) old) ≡ drop (at + length (x ++ y)) old =
    ap (λ (k : ℕ). drop (k + length y) (p ++ drop (at + length x) old)) (sym long) ∙ drop-append-add p (drop (at + length x) old) (length y)
    ∙ drop-drop (length y) (at + length x) old ∙ ap (λ (k : ℕ). drop k old) (omega (arith, length-append x y)) in
    ap (λ (l : List ℕ). l ++ y ++ drop (at + length x + length y) (p ++ drop (at + length x) old)) front
    ∙ ap (λ (l : List ℕ). p ++ y ++ l) back
    ∙ ap (λ (l : List ℕ). l ++ drop (at + length (x ++ y)) old) (append_assoc (take at old) x y)

pub length_with : (old : List ℕ) (at : ℕ) (x : List ℕ) → at ≤ length old → at + length x ≤ length (with_bytes at x old)
length_with old at x within =
    omega (arith, length-append (take at old ++ x) (drop (at + length x) old), length-append (take at old) x, length-take-le at old within)

-- bytes written at the end
pub with_at_end : (old x : List ℕ) (at : ℕ) → at ≡ length old → with_bytes at x old ≡ old ++ x
with_at_end old x at is =
    let front : take at old ≡ old = take_all at old (omega (arith, is)) in
    let none : length (drop (at + length x) old) ≡ 0 = omega (arith, is, length-drop (at + length x) old) in
    ap (λ (l : List ℕ). l ++ x ++ drop (at + length x) old) front ∙ ap (λ (l : List ℕ). old ++ x ++ l) (empty (drop (at + length x) old) none) ∙ nothing (old ++ x)
  where
    empty : (l : List ℕ) → length l ≡ 0 → l ≡ []
    empty [] long = refl
    empty (a ∷ l) long = absurd (omega (arith, long))

    nothing : (l : List ℕ) → l ++ [] ≡ l
    nothing [] = refl
    nothing (a ∷ l) = ap (λ (t : List ℕ). a ∷ t) (nothing l)

-- a write, and one behind it
pub written_then : (area at k : ℕ) (x y : List ℕ) (a b c : DiskSeen) → k ≡ at + length x → IfSome a.told (λ read. at ≤ length (area_of area read))
    → ReadMoves area (Written at x) a b → ReadMoves area (Written k y) b c → ReadMoves area (Written at (x ++ y)) a c
written_then area at k x y a b c next within first second = reads_then_at area (Written at x) (Written k y) (Written at (x ++ y)) a b c
    (λ read is l m one two.
    two ∙ ap (λ (j : ℕ). with_bytes j y l) next ∙ ap (λ (t : List ℕ). with_bytes (at + length x) y t) one
    ∙ with_more (area_of area read) at x y (at_some (λ read. at ≤ length (area_of area read)) a.told read is within)) first second

-- there is room behind a write
pub written_room : (area at k : ℕ) (x : List ℕ) (a b : DiskSeen) → k ≡ at + length x → IfSome a.told (λ read. at ≤ length (area_of area read))
    → ReadMoves area (Written at x) a b → IfSome b.told (λ read. k ≤ length (area_of area read))
written_room area at k x a b next within moves = told_after area (Written at x) (λ bytes. k ≤ length bytes) a b
    (λ read is c written. subst (λ (l : List ℕ). k ≤ length l) (sym written)
    (omega (arith, next, length_with (area_of area read) at x (at_some (λ read. at ≤ length (area_of area read)) a.told read is within)))) moves

pub keeps_written : (area at n : ℕ) (d : DiskSeen) → IfSome d.told (λ read. (x y : List ℕ) → Torn at n (length (area_of area read)) x y → KeepsFront at x y)
keeps_written area at n d = if_some (λ read. (x y : List ℕ) → Torn at n (length (area_of area read)) x y → KeepsFront at x y) d.told (λ read is x y torn. torn_keeps at n (length (area_of area read)) x y torn)

pub flips_written : (area at : ℕ) (d : DiskSeen) → IfSome d.told (λ read. at < length (area_of area read)) → IfSome d.told (λ read. (x y : List ℕ) → Torn at 1 (length (area_of area read)) x y → Flips at x y)
flips_written area at d within = if_some (λ read. (x y : List ℕ) → Torn at 1 (length (area_of area read)) x y → Flips at x y) d.told
    (λ read is x y torn. flips_torn at (length (area_of area read)) x y (omega (arith, at_some (λ read. at < length (area_of area read)) d.told read is within)) torn)

pub short_written : (area : ℕ) (d : DiskSeen) → IfSome d.told (λ read. (x y : List ℕ) → Torn 0 1 (length (area_of area read)) x y → StaysShort x y)
short_written area d = if_some (λ read. (x y : List ℕ) → Torn 0 1 (length (area_of area read)) x y → StaysShort x y) d.told (λ read is x y torn. short_torn (length (area_of area read)) x y torn)

pub on_ok_as : {T E P Q : Type 0} (r : Result T E) → (P → Q) → OnOk r P → OnOk r Q
on_ok_as (Ok x) weaker p = weaker p
on_ok_as (Err e) weaker p = tt

-- a write keeps what stands before it
pub ran_put : (area at n : ℕ) (old new : DiskSeen) → Lasts old new → IfSome old.told (λ read. Each area (Torn at n (length (area_of area read))) old new)
    → ReadMoves area (λ was. Torn at n (length was) was) old new → Ran area (KeepsFront at) old new
ran_put area at n old new time images part = ran_write area at n (KeepsFront at) old new time images part (keeps_written area at n old)

-- two writes, the second behind the first
pub ran_puts : (area at k : ℕ) (a b c : DiskSeen) → at ≤ k → Ran area (KeepsFront at) a b → Ran area (KeepsFront k) b c → Ran area (KeepsFront at) a c
ran_puts area at k a b c behind first second = ran_then area (KeepsFront at) (KeepsFront k) (KeepsFront at) a b c (λ d e keeps. keeps)
    (λ d e f keeps more. keeps_then at d e f keeps (keeps_less at k e f behind more)) first second

-- and then calls that change nothing
pub ran_synced : (area : ℕ) (Q : List ℕ → List ℕ → Type 0) (a b c : DiskSeen) → Ran area Q a b → Lasts b c → IfSome b.told (λ read. Each area Same b c) → c.told ≡ b.told → Ran area Q a c
ran_synced area Q a b c first time images same = ran_then area Q Same Q a b c (λ d e q. q) (λ d e f q is. subst (λ (l : List ℕ). Q d l) (sym is) q) first (ran_same area b c time images same)

-- calls that change nothing, and then others
pub ran_after : (area : ℕ) (Q : List ℕ → List ℕ → Type 0) (a b c : DiskSeen) → ((d : List ℕ) → Q d d) → Ran area Same a b → Ran area Q b c → Ran area Q a c
ran_after area Q a b c still first second = ran_then area Same Q Q a b c (λ d e is. subst (λ (l : List ℕ). Q d l) (sym is) (still d)) (λ d e f is q. subst (λ (l : List ℕ). Q l f) is q) first second
