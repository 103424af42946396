-- Lists of entries: beginnings, the entries of one pass, and what a turn may add.
use Rattle.std.specs.Prelude.{◌≡◌, ℕ, ◌≤◌, List, ◌++◌, ◌==◌, filter, Contains}
pub use Rattle.turnstile.specs.declared.chronicle.Note.{Note}
pub use Rattle.turnstile.specs.declared.chronicle.Counts.{Counts}
pub use Rattle.turnstile.specs.declared.chronicle.Shown.{Shown}

-- the list `ys` begins with `xs`
abbrev pub Begins : List Note → List Note → Type 0
Begins xs ys = (more : List Note) × (ys ≡ xs ++ more)

-- none of the four numbers fell from `a` to `b`
abbrev pub AtMost : Counts → Counts → Type 0
AtMost a b = (a.disk ≤ b.disk) × (a.clock ≤ b.clock) × (a.search ≤ b.search) × (a.high ≤ b.high)

-- the entries with the number `w`, in their order
abbrev pub own_entries : ℕ → List Note → List Note
own_entries w es = filter (λ e. e.by == w) es

-- of each of the numbers `ws`, `fs` has exactly the entries that `es` has, in their order
abbrev pub SameOwn : List ℕ → List Note → List Note → Type 0
SameOwn ws es fs = (w : ℕ) → Contains ws w → own_entries w fs ≡ own_entries w es

-- each entry has the number `w`
abbrev pub AllBy : ℕ → List Note → Type 0
AllBy w es = own_entries w es ≡ es

-- a value that shows `x` may be left by the pass `w` that took one which showed `y`
pub record Follows (w : ℕ) (y x : Shown) : Type 0 where
  pub stem : x.stem ≡ y.stem
  pub counts : AtMost y.counts x.counts
  pub more : List Note
  pub entries : x.entries ≡ y.entries ++ more
  pub by : AllBy w more
