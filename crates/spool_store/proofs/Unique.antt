-- The bytes of both areas stand for one thing.
use Rattle.std.proofs.Common.{◌≡◌, ◌≢◌, ℕ, zero, suc, ◌+◌, ◌≤◌, ◌<◌, ◌^◌, List, [], ◌∷◌, ◌++◌, length, take, drop, get_or, Option, Some, None, refl, sym, ◌∙◌, subst, ap, arith}
use Rattle.std.specs.Int.{from_be_bytes, w32}
use Rattle.std.proofs.lemmas.Nat.{from_be_bytes-to_be_bytes_4}
use Rattle.std.proofs.lemmas.List.{take_at, drop_at, append_assoc, append_cancel_left, length-append}
use Rattle.kumo_disk.specs.Disk.{Image, DiskSeen}
use Rattle.kumo_disk.proofs.Runs.{at_some}
use Rattle.spool_log.specs.Area.{LogRecord, bytes_of, bytes_of_all, header_of, RecordAt, AreSmall}
use Rattle.spool_log.specs.Head.{header_in, version_in}
use Rattle.spool_log.specs.declared.head.Header.{Header}
use Rattle.spool_format.specs.declared.kept.Kept.{Kept}
use Rattle.spool_store.specs.Content.{Item, after, and_then, played, kept_of}
use Rattle.spool_store.specs.Reading.{Reading, Sound, Broken, Breaks, IsSound, Walks, Force, Nothing, InForce, Faulty, force_in, by_force, Reads, Recovers}
use Rattle.spool_store.specs.Crash.{MayLeave}
use Rattle.spool_store.specs.Store.{live_size_of}
use Rattle.spool_store.specs.declared.limits.TheConstants.{AREA_LIMIT}

abbrev of : ℕ → List ℕ → LogRecord
of kind payload = record { kind = kind; payload = payload }

-- of a record, and what follows it, there is one
pub same_records : (r s : LogRecord) (x y : List ℕ) → length r.payload < 2 ^ 32 → length s.payload < 2 ^ 32 → bytes_of r ++ x ≡ bytes_of s ++ y → (r ≡ s) × (x ≡ y)
same_records r s x y small other is =
    let kind : r.kind ≡ s.kind = ap (λ (l : List ℕ). get_or (drop 1 l) 0 0) is in
    let long : length r.payload ≡ length s.payload = sym (from_be_bytes-to_be_bytes_4 (length r.payload) small) ∙ ap (λ (l : List ℕ). from_be_bytes w32 (take 4 (drop 2 l))) is ∙ from_be_bytes-to_be_bytes_4 (length s.payload) other in
    let rest : r.payload ++ x ≡ s.payload ++ y = ap (λ (l : List ℕ). drop 6 l) is in
    let payload : r.payload ≡ s.payload = sym (take_at r.payload x (length r.payload) refl) ∙ ap (λ (l : List ℕ). take (length r.payload) l) rest ∙ take_at s.payload y (length r.payload) (sym long) in
    let behind : x ≡ y = sym (drop_at r.payload x (length r.payload) refl) ∙ ap (λ (l : List ℕ). drop (length r.payload) l) rest ∙ drop_at s.payload y (length r.payload) (sym long) in
    (same r.kind s.kind r.payload s.payload kind payload, behind)
  where
    same : (k m : ℕ) (p q : List ℕ) → k ≡ m → p ≡ q → of k p ≡ of m q
    same k m p q a b = cc

-- the record at an offset is one
pub same_record_at : (at : ℕ) (r s : LogRecord) (area : List ℕ) → RecordAt at r area → RecordAt at s area → r ≡ s
same_record_at at r s area first second = (same_records r s (first.gate ∷ first.rest) (second.gate ∷ second.rest) first.small second.small (sym first.split ∙ second.split)).0

-- a gate stands there
pub record HasGate (x : List ℕ) : Type 0 where
  pub gate : ℕ
  pub more : List ℕ
  pub is : x ≡ gate ∷ more

-- no good record stands there
abbrev pub NoNext : ℕ → ℕ → List Item → List ℕ → Type 0
NoNext version at items x = (r : LogRecord) (gate : ℕ) (more : List ℕ) → x ≡ bytes_of r ++ gate ∷ more → length r.payload < 2 ^ 32 → after version at items r ≡ None

some_gate : (ss : List LogRecord) (y : List ℕ) → HasGate y → HasGate (bytes_of_all ss ++ y)
some_gate [] y has = has
some_gate (s ∷ ss) y has = record { gate = 1; more = _; is = refl }

pub then_some : (o : Option (List Item)) (f : List Item → Option (List Item)) (ns : List Item) → and_then o f ≡ Some ns → (m : List Item) × (o ≡ Some m) × (f m ≡ Some ns)
then_some None f ns is = let no_some : None ≡ Some ns = is in (cc, cc, cc)
then_some (Some m) f ns is = (m, refl, is)

-- where no good record stands, none was read
stuck : (v at : ℕ) (ms ns : List Item) (s : LogRecord) (ss : List LogRecord) (x y : List ℕ) → length s.payload < 2 ^ 32 → NoNext v at ms x → HasGate y → played v at ms (s ∷ ss) ≡ Some ns → x ≡ bytes_of s ++ bytes_of_all ss ++ y → ⊥
stuck v at ms ns s ss x y small none has plays is =
    let then = then_some (after v at ms s) (λ ns. played v (at + length (bytes_of s)) ns ss) ns plays in
    let gate = some_gate ss y has in
    let no_more : after v at ms s ≡ None = none s gate.gate gate.more (is ∙ append_assoc (bytes_of s) (bytes_of_all ss) y ∙ ap (λ (l : List ℕ). bytes_of s ++ l) gate.is) small in
    let clash : Some then.0 ≡ None = sym then.1 ∙ no_more in
    cc

abbrev end_of : ℕ → List LogRecord → ℕ
end_of at [] = at
end_of at (r ∷ rs) = end_of (at + length (bytes_of r)) rs

pub walk_same : (v at : ℕ) (ms ns os : List Item) (rs ss : List LogRecord) (x y : List ℕ) → AreSmall rs → AreSmall ss → played v at ms rs ≡ Some ns → played v at ms ss ≡ Some os → HasGate x → HasGate y
    → NoNext v (end_of at rs) ns x → NoNext v (end_of at ss) os y → bytes_of_all rs ++ x ≡ bytes_of_all ss ++ y → (rs ≡ ss) × (x ≡ y)
walk_same v at ms ns os [] [] x y small little first second has more none no_more is = (refl, is)
walk_same v at ms ns os [] (s ∷ ss) x y small little first second has more none no_more is =
    let same : ms ≡ ns = cc in
    absurd (stuck v at ms os s ss x y little.0 (subst (λ (l : List Item). NoNext v at l x) (sym same) none) more second is)
walk_same v at ms ns os (r ∷ rs) [] x y small little first second has more none no_more is =
    let same : ms ≡ os = cc in
    absurd (stuck v at ms ns r rs y x small.0 (subst (λ (l : List Item). NoNext v at l y) (sym same) no_more) has first (sym is))
walk_same v at ms ns os (r ∷ rs) (s ∷ ss) x y small little first second has more none no_more is =
    let both = same_records r s (bytes_of_all rs ++ x) (bytes_of_all ss ++ y) small.0 little.0 (sym (append_assoc (bytes_of r) (bytes_of_all rs) x) ∙ is ∙ append_assoc (bytes_of s) (bytes_of_all ss) y) in
    let one = then_some (after v at ms r) (λ ns. played v (at + length (bytes_of r)) ns rs) ns first in
    let two = then_some (after v at ms s) (λ ns. played v (at + length (bytes_of s)) ns ss) os second in
    let mid : one.0 ≡ two.0 = let is_some : Some one.0 ≡ Some two.0 = sym one.1 ∙ ap (λ (q : LogRecord). after v at ms q) both.0 ∙ two.1 in cc in
    let next : at + length (bytes_of r) ≡ at + length (bytes_of s) = ap (λ (q : LogRecord). at + length (bytes_of q)) both.0 in
    let rest = walk_same v (at + length (bytes_of r)) one.0 ns os rs ss x y small.1 little.1 one.2 (ap (λ (l : List Item). played v (at + length (bytes_of r)) l ss) mid ∙ ap (λ (k : ℕ). played v k two.0 ss) next ∙ two.2) has more none
    (subst (λ (k : ℕ). NoNext v (end_of k ss) os y) (sym next) no_more) both.1 in
    let first_same : r ≡ s = both.0 in
    let rest_same : rs ≡ ss = rest.0 in
    (cc, rest.1)

closed_none : (v at : ℕ) (ms : List Item) (gate : ℕ) (rest : List ℕ) → gate ≢ 1 → NoNext v at ms (gate ∷ rest)
closed_none v at ms gate rest shut = λ r g more is small. absurd (shut (ap (λ (l : List ℕ). get_or l 0 0) is))

pub end_is : (at : ℕ) (rs : List LogRecord) → end_of at rs ≡ at + length (bytes_of_all rs)
end_is at [] = omega arith
end_is at (r ∷ rs) = omega (arith, end_is (at + length (bytes_of r)) rs, length-append (bytes_of r) (bytes_of_all rs))

breaks_none : (at : ℕ) (area : List ℕ) (b : Breaks at area) → NoNext (version_in area) (end_of 16 b.rs) b.items (1 ∷ b.rest)
breaks_none at area b = λ r gate more is small.
    subst (λ (k : ℕ). after (version_in area) k b.items r ≡ None) (sym same) (b.no_more r (record {
      gate = gate;
      rest = more;
      split = ap (λ (l : List ℕ). drop at l) b.split ∙ drop_at (header_of (header_in area) ++ bytes_of_all b.rs) (1 ∷ b.rest) at (sym b.ends) ∙ is;
      small = small;
    }))
  where
    same : end_of 16 b.rs ≡ at
    same = omega (arith, end_is 16 b.rs, b.ends, length-append (header_of (header_in area)) (bytes_of_all b.rs))

tails : (h : Header) (rs ss : List LogRecord) (x y area : List ℕ) → area ≡ header_of h ++ bytes_of_all rs ++ x → area ≡ header_of h ++ bytes_of_all ss ++ y → bytes_of_all rs ++ x ≡ bytes_of_all ss ++ y
tails h rs ss x y area one two = append_cancel_left (header_of h) (bytes_of_all rs ++ x) (bytes_of_all ss ++ y) (sym (append_assoc (header_of h) (bytes_of_all rs) x) ∙ sym one ∙ two ∙ append_assoc (header_of h) (bytes_of_all ss) y)

sound_same : (ms ns : List Item) (area : List ℕ) → IsSound ms area → IsSound ns area → ms ≡ ns
sound_same ms ns area a b =
    let v : ℕ = version_in area in
    let both = walk_same v 16 [] ms ns a.rs b.rs (a.form.gate ∷ a.form.rest) (b.form.gate ∷ b.form.rest) a.form.small b.form.small a.plays b.plays
    (record { gate = a.form.gate; more = a.form.rest; is = refl }) (record { gate = b.form.gate; more = b.form.rest; is = refl })
    (closed_none v (end_of 16 a.rs) ms a.form.gate a.form.rest a.form.shut) (closed_none v (end_of 16 b.rs) ns b.form.gate b.form.rest b.form.shut)
    (tails (header_in area) a.rs b.rs (a.form.gate ∷ a.form.rest) (b.form.gate ∷ b.form.rest) area a.form.split b.form.split) in
    let is_some : Some ms ≡ Some ns = sym a.plays ∙ ap (λ (l : List LogRecord). played v 16 [] l) both.0 ∙ b.plays in
    cc

sound_breaks : (ms : List Item) (at : ℕ) (area : List ℕ) → IsSound ms area → Breaks at area → ⊥
sound_breaks ms at area a b =
    let v : ℕ = version_in area in
    let both = walk_same v 16 [] ms b.items a.rs b.rs (a.form.gate ∷ a.form.rest) (1 ∷ b.rest) a.form.small b.small a.plays b.plays
    (record { gate = a.form.gate; more = a.form.rest; is = refl }) (record { gate = 1; more = b.rest; is = refl })
    (closed_none v (end_of 16 a.rs) ms a.form.gate a.form.rest a.form.shut) (breaks_none at area b)
    (tails (header_in area) a.rs b.rs (a.form.gate ∷ a.form.rest) (1 ∷ b.rest) area a.form.split b.split) in
    a.form.shut (ap (λ (l : List ℕ). get_or l 0 0) both.1)

breaks_same : (at to : ℕ) (area : List ℕ) → Breaks at area → Breaks to area → at ≡ to
breaks_same at to area a b =
    let v : ℕ = version_in area in
    let both = walk_same v 16 [] a.items b.items a.rs b.rs (1 ∷ a.rest) (1 ∷ b.rest) a.small b.small a.plays b.plays
    (record { gate = 1; more = a.rest; is = refl }) (record { gate = 1; more = b.rest; is = refl })
    (breaks_none at area a) (breaks_none to area b)
    (tails (header_in area) a.rs b.rs (1 ∷ a.rest) (1 ∷ b.rest) area a.split b.split) in
    a.ends ∙ ap (λ (l : List LogRecord). length (header_of (header_in area) ++ bytes_of_all l)) both.0 ∙ sym b.ends

pub walks_same : (n : ℕ) (area : List ℕ) (r s : Reading) → Walks n area r → Walks n area s → r ≡ s
walks_same n area (Sound ms) (Sound ns) a b = ap Sound (sound_same ms ns area a b)
walks_same n area (Sound ms) (Broken m at) a b = absurd (sound_breaks ms at area a b.1)
walks_same n area (Broken m at) (Sound ms) a b = absurd (sound_breaks ms at area b a.1)
walks_same n area (Broken m at) (Broken k to) a b =
    let one : m ≡ k = a.0 ∙ sym b.0 in
    let two : at ≡ to = breaks_same at to area a.1 b.1 in
    cc

force_same : (f : Force) (image : Image) (r s : Reading) → by_force f image r → by_force f image s → r ≡ s
force_same Nothing image r s one two = one ∙ sym two
force_same (InForce zero) image r s one two = walks_same 0 image.first r s one two
force_same (InForce (suc n)) image r s one two = walks_same 1 image.second r s one two
force_same (Faulty n at) image r s one two = one ∙ sym two

-- an image has one reading
pub reads_same : (image : Image) (r s : Reading) → Reads image r → Reads image s → r ≡ s
reads_same image r s one two = force_same (force_in image) image r s one two

pub items_same : (image : Image) (ms ns : List Item) → Reads image (Sound ms) → Reads image (Sound ns) → ms ≡ ns
items_same image ms ns one two = inside (reads_same image (Sound ms) (Sound ns) one two)
  where
    inside : Sound ms ≡ Sound ns → ms ≡ ns
    inside is = cc

-- and one list of pending messages
pub kept_same : (image : Image) (items : List Item) (kept : List Kept) → Reads image (Sound items) → Recovers image kept → kept ≡ kept_of items
kept_same image items kept reads recovers = recovers.same ∙ ap (λ (l : List Item). kept_of l) (items_same image recovers.items items recovers.reads reads)

pub broken_same : (image : Image) (m n at to : ℕ) → Reads image (Broken m at) → Reads image (Broken n to) → (m ≡ n) × (at ≡ to)
broken_same image m n at to one two = inside (reads_same image (Broken m at) (Broken n to) one two)
  where
    inside : Broken m at ≡ Broken n to → (m ≡ n) × (at ≡ to)
    inside is = (cc, cc)

pub never_both : (image : Image) (items : List Item) (n at : ℕ) → Reads image (Sound items) → Reads image (Broken n at) → ⊥
never_both image items n at one two = clash (reads_same image (Sound items) (Broken n at) one two)
  where
    clash : Sound items ≡ Broken n at → ⊥
    clash is = cc

pub recovered_same : (image : Image) (a b : List Kept) → Recovers image a → Recovers image b → a ≡ b
recovered_same image a b one two = kept_same image two.items a two.reads one ∙ sym two.same

-- what a crash leaves has the same messages
pub left_recovers : (kept : List Kept) (seen : DiskSeen) (image : Image) → MayLeave kept seen image → Recovers image kept
left_recovers kept seen image left = subst (λ (i : Image). Recovers i kept) (sym (at_some (λ read. (image : Image) → seen.left seen.moment image → image ≡ read) seen.told left.read left.told left.on_disk image left.left))
    (at_some (λ read. Recovers read kept) seen.told left.read left.told left.content)

pub left_large : (kept others : List Kept) (seen : DiskSeen) (image : Image) → MayLeave kept seen image → live_size_of kept ≤ AREA_LIMIT → Recovers image others → AREA_LIMIT < live_size_of others → ⊥
left_large kept others seen image left within recovers large =
    omega (arith, within, large, ap (λ (l : List Kept). live_size_of l) (recovered_same image others kept recovers (left_recovers kept seen image left)))
