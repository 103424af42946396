-- Several calls of a disk, where it is known what a read gave or what a crash might have left before each.
use Rattle.std.proofs.Common.{◌≡◌, ℕ, List, Option, Some, None, IfSome, MatchOption, sym, ◌∙◌, subst, arith}
use Rattle.std.specs.Bool.{⊤}
use Rattle.kumo_disk.specs.Disk.{Image, area_of, DiskSeen, Moved, Each, ReadMoves, IsDurable, Any}
use Rattle.kumo_disk.specs.Calls.{Ran}
use Rattle.kumo_disk.proofs.Runs.{at_some, if_some, moved_from, untold_from, told_before, reads_of, reads_then, lasts_then, each_then}

-- whatever a crash leaves of an area is so
abbrev pub AllLeft : ℕ → (List ℕ → Type 0) → DiskSeen → Type 0
AllLeft area P seen = IfSome seen.told (λ read. (image : Image) → seen.left seen.moment image → P (area_of area image))

-- two moves of what a read gives, from what it gave at first
pub reads_then_at : (area : ℕ) (Q R S : List ℕ → List ℕ → Type 0) (a b c : DiskSeen)
    → ((read : Image) → a.told ≡ Some read → (y z : List ℕ) → Q (area_of area read) y → R y z → S (area_of area read) z)
    → ReadMoves area Q a b → ReadMoves area R b c → ReadMoves area S a c
reads_then_at area Q R S a b c both first second = reads_of area S a c
    (λ none. untold_from area R b c (untold_from area Q a b none first) second)
    (λ read is.
    let mid = moved_from area Q a b read is first in
    let end = moved_from area R b c mid.0 mid.1 second in
    (end.0, end.1, record { here = both read is _ _ mid.2.here end.2.here; elsewhere = λ other differs. end.2.elsewhere other differs ∙ mid.2.elsewhere other differs }))

-- another word for a move, from what a read gave
pub reads_as_at : (area : ℕ) (Q R : List ℕ → List ℕ → Type 0) (a b : DiskSeen)
    → ((read : Image) → a.told ≡ Some read → (c : List ℕ) → Q (area_of area read) c → R (area_of area read) c) → ReadMoves area Q a b → ReadMoves area R a b
reads_as_at area Q R a b weaker moves = reads_of area R a b (λ none. untold_from area Q a b none moves)
    (λ read is.
    let after = moved_from area Q a b read is moves in
    (after.0, after.1, record { here = weaker read is _ after.2.here; elsewhere = after.2.elsewhere }))

-- the same told, the same move
pub reads_from : (area : ℕ) (Q : List ℕ → List ℕ → Type 0) (a b c : DiskSeen) → b.told ≡ a.told → ReadMoves area Q b c → ReadMoves area Q a c
reads_from area Q a b c same moves = subst (λ (o : Option Image). MatchOption o (c.told ≡ None) (λ was. (now : Image) × (c.told ≡ Some now) × Moved area Q was now)) same moves

pub reads_to : (area : ℕ) (Q : List ℕ → List ℕ → Type 0) (a b c : DiskSeen) → c.told ≡ b.told → ReadMoves area Q a b → ReadMoves area Q a c
reads_to area Q a b c same moves = reads_of area Q a c (λ none. same ∙ untold_from area Q a b none moves)
    (λ read is.
    let after = moved_from area Q a b read is moves in
    (after.0, same ∙ after.1, after.2))

-- what is read after a move, by what it comes from
pub told_after : (area : ℕ) (Q : List ℕ → List ℕ → Type 0) (P : List ℕ → Type 0) (a b : DiskSeen)
    → ((read : Image) → a.told ≡ Some read → (c : List ℕ) → Q (area_of area read) c → P c) → ReadMoves area Q a b → IfSome b.told (λ read. P (area_of area read))
told_after area Q P a b gives moves = if_some (λ read. P (area_of area read)) b.told (λ now is.
    let before = told_before area Q a b now is moves in
    gives before.0 before.1 _ before.2.here)

-- calls after calls, where it is known what a crash might have left before the first, and in between
pub ran_by : (area : ℕ) (A B : List ℕ → Type 0) (Q R S : List ℕ → List ℕ → Type 0) (a b c : DiskSeen) → AllLeft area A a → AllLeft area B b
    → ((x y : List ℕ) → A x → Q x y → S x y) → ((x y z : List ℕ) → A x → B y → Q x y → R y z → S x z) → Ran area Q a b → Ran area R b c → Ran area S a c
ran_by area A B Q R S a b c at_first then alone both first second = record {
  time = lasts_then a b c first.time second.time;
  images = if_some (λ read. Each area S a c) a.told (λ read is.
      let mid = moved_from area Any a b read is first.reads in
      let was : (d : Image) → a.left a.moment d → A (area_of area d) = at_some (λ read. (d : Image) → a.left a.moment d → A (area_of area d)) a.told read is at_first in
      let now : (d : Image) → b.left b.moment d → B (area_of area d) = at_some (λ read. (d : Image) → b.left b.moment d → B (area_of area d)) b.told mid.0 mid.1 then in
      each_then area Q R S a b c first.time second.time (at_some (λ read. Each area Q a b) a.told read is first.images) (at_some (λ read. Each area R b c) b.told mid.0 mid.1 second.images)
      (λ d before e. alone (area_of area d) e (was d before))
      (λ d before e after q f r. both (area_of area d) (area_of area e) f (was d before) (now e after) q r));
  reads = reads_then area Any Any Any a b c (λ x y z p q. tt) first.reads second.reads;
}

-- what a crash leaves after calls, by what it might have left before
pub left_after : (area : ℕ) (A P : List ℕ → Type 0) (R : List ℕ → List ℕ → Type 0) (b c : DiskSeen) → AllLeft area A b → ((x y : List ℕ) → A x → R x y → P y) → Ran area R b c → AllLeft area P c
left_after area A P R b c before gives ran = if_some (λ read. (image : Image) → c.left c.moment image → P (area_of area image)) c.told (λ now is image left.
    let read = told_before area Any b c now is ran.reads in
    let comes = at_some (λ read. Each area R b c) b.told read.0 read.1 ran.images image (c.earlier b.moment c.moment image ran.time.later (omega arith) left) in
    gives (area_of area comes.0) (area_of area image) (at_some (λ read. (d : Image) → b.left b.moment d → A (area_of area d)) b.told read.0 read.1 before comes.0 comes.1) comes.2.here)

-- a crash leaves what is so of what a read gives, where it leaves nothing else
pub left_durable : (area : ℕ) (P : List ℕ → Type 0) (d : DiskSeen) → IsDurable area d → IfSome d.told (λ read. P (area_of area read)) → AllLeft area P d
left_durable area P d durable reads = if_some (λ read. (image : Image) → d.left d.moment image → P (area_of area image)) d.told (λ read is image left.
    subst P (sym (at_some (λ read. (image : Image) → d.left d.moment image → area_of area image ≡ area_of area read) d.told read is durable image left)) (at_some (λ read. P (area_of area read)) d.told read is reads))

-- anything may be left
pub left_any : (area : ℕ) (d : DiskSeen) → AllLeft area (λ bytes. ⊤) d
left_any area d = if_some (λ read. (image : Image) → d.left d.moment image → ⊤) d.told (λ read is image left. tt)
