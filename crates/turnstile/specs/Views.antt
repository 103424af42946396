-- What a pass knows, and how it changes: when it comes, leaves, gives a pass or meets one.
use Rattle.std.specs.Prelude.{◌≡◌, ℕ, ◌+◌, ◌<◌, List, [], ◌∷◌, ◌++◌, length, max, ltb, cond, Option, Some, None, Bool, true, false, Contains}
use base.Stored.{gnil}
pub use Rattle.turnstile.specs.declared.view.Told.{Told}
pub use Rattle.turnstile.specs.declared.view.View.{View}
use Rattle.turnstile.specs.Entries.{Begins, SameOwn, Counts, Shown}

abbrev pub untold : Told
untold = record { entries = []; numbers = [] }

-- the view of a pass that comes with the number `i` and has seen `x`
abbrev pub newcomer : ℕ → Shown → View
newcomer i x = record { number = i; ticket = None; took = None; away = false; seen = x; met = []; left = untold; right = untold; given = 1; spent = false }

-- the view of the first pass before it leaves the value `x` in the turnstile: it has the first ticket, and its turn
abbrev pub founder : Shown → View
founder x = record (newcomer 0 x) { ticket = Some 0; took = Some x }

-- the numbers whose entries a pass knows whole: its own, and those of the passes that it met
abbrev pub whose : View → List ℕ
whose v = v.number ∷ v.met

-- the same pass, with what it saw
abbrev pub IsSamePass : View → View → Type 0
IsSamePass v w = (w.number ≡ v.number) × (w.seen ≡ v.seen) × (w.met ≡ v.met) × (w.given ≡ v.given)

-- the view after a turn that left a value which shows `x`
abbrev pub left_with : Shown → View → View
left_with x v = record v { ticket = None; took = None; away = false; seen = x; left = untold; right = untold }

-- pass 0 after it gave a pass, and the new pass
abbrev pub with_number_given : View → View
with_number_given v = record v { given = v.given + 1 }

abbrev pub fresh : View → View
fresh v = record (newcomer v.given v.seen) { given = 0 }

abbrev greater : Counts → Counts → Counts
greater a b = record { disk = max a.disk b.disk; clock = max a.clock b.clock; search = max a.search b.search; high = max a.high b.high }

-- of two beginnings of one history the longer, with the greater of each number
abbrev pub longer : Shown → Shown → Shown
longer a b = record {
  stem = a.stem;
  entries = cond (ltb (length a.entries) (length b.entries)) b.entries a.entries;
  counts = greater a.counts b.counts;
}

-- the pass that stays where `v` met `w`
abbrev pub joined : View → View → View
joined v w = record v {
  seen = longer v.seen w.seen;
  met = v.met ++ w.number ∷ w.met;
  left = record { entries = v.seen.entries; numbers = whose v };
  right = record { entries = w.seen.entries; numbers = whose w };
}

abbrev nothing : Shown
nothing = record { stem = record { of = gnil }; entries = []; counts = record { disk = 0; clock = 0; search = 0; high = 0 } }

-- the view of a pass that was met
abbrev pub ended : View
ended = record (newcomer 0 nothing) { given = 0; spent = true }

-- of what was told then, `x` has all, and no more entries of its numbers
abbrev pub IsTold : Told → Shown → Type 0
IsTold a x = Begins a.entries x.entries × SameOwn a.numbers a.entries x.entries

-- every other number that was given is that of a pass that was met
abbrev pub AllMet : View → Type 0
AllMet v = (w : ℕ) → 0 < w → w < v.given → Contains v.met w

-- a pass's list has one view; that of a pass that was met stands in for none, which never comes
abbrev pub known : List View → View
known [] = ended
known (v ∷ vs) = v

abbrev pub is_there : {A : Type 0} → Option A → Bool
is_there (Some x) = true
is_there None = false
