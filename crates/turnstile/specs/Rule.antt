-- The rule of the turnstile: what is true of the two words, the slot and all views between any two steps.
-- Tickets and turns are counted here without end. The words have them modulo 2 ^ 64.
use Rattle.std.specs.Prelude.{◌≡◌, ◌⊎◌, ℕ, ◌+◌, ◌%◌, ◌^◌, ◌<◌, ◌≤◌, List, [], ◌∷◌, length, Option, Some, None, Bool, true, false, Contains}
use mathlib.Core.Option.{some, none}
use mathlib.Core.Option as maybe
use lib.ListN.{get_elem?}
use Rattle.atomic_table.specs.Table.{State}
use Rattle.turnstile.specs.Entries.{Begins, AtMost, SameOwn, own_entries, Shown}
use Rattle.turnstile.specs.Views.{IsTold, whose, View, Told}

abbrev pub waits : Option ℕ → ℕ
waits (Some t) = 1
waits None = 0

-- how many views have a ticket
abbrev pub waiting : List View → ℕ
waiting [] = 0
waiting (v ∷ vs) = waits v.ticket + waiting vs

-- what is true of the history `log`, where a pass has seen `x`, knows all entries of `numbers`, and was told `a` and `b`
pub record IsKnown (log : Shown) (numbers : List ℕ) (x : Shown) (a b : Told) : Type 0 where
  pub stem : x.stem ≡ log.stem
  pub begins : Begins x.entries log.entries
  pub counts : AtMost x.counts log.counts
  -- nobody else adds entries with its number, or with that of a pass that it met
  pub own : SameOwn numbers x.entries log.entries
  pub left : IsTold a x
  pub right : IsTold b x

abbrev pub Knows : Shown → View → Type 0
Knows log v = IsKnown log (whose v) v.seen v.left v.right

-- the pass `w` was met
abbrev pub IsSpent : List View → ℕ → Type 0
IsSpent views w = (u : View) × (get_elem? views w ≡ some u) × (u.spent ≡ true)

-- what is true of the view `v` at the place `i` of all views
pub record IsSeated (next turn : ℕ) (log : Shown) (views : List View) (i : ℕ) (v : View) : Type 0 where
  pub number : v.spent ≡ false → v.number ≡ i
  pub ticket : (t : ℕ) → v.ticket ≡ Some t → (turn ≤ t) × (t < next)
  -- the view whose ticket is served holds the value, if any, and keeps the list that it took
  pub took : (x : Shown) → v.took ≡ Some x → (v.ticket ≡ Some turn) × (x ≡ log)
  pub knows : v.spent ≡ false → Knows log v
  pub spent : v.spent ≡ true → (v.ticket ≡ None) × (v.took ≡ None)
  pub met : (w : ℕ) → v.spent ≡ false → Contains v.met w → IsSpent views w

-- tickets out differ
abbrev pub Apart : List View → Type 0
Apart views = (i j t : ℕ) (v w : View) → get_elem? views i ≡ some v → get_elem? views j ≡ some w → v.ticket ≡ Some t → w.ticket ≡ Some t → i ≡ j

-- the slot while a pass holds the value: out, or at home with nothing in it
abbrev pub emptied : {T : Type 0} → Bool → maybe.Option (Option T)
emptied true = none
emptied false = some None

module _ {T : Type 0} (shown : T → Shown) where
  -- the value in the slot stands for the history
  abbrev pub IsIn : Shown → List (maybe.Option (Option T)) → List View → Type 0
  IsIn log homes views = (y : T) × (homes ≡ some (Some y) ∷ []) × (shown y ≡ log) × ((i : ℕ) (v : View) → get_elem? views i ≡ some v → v.took ≡ None)

  -- a pass holds it
  abbrev pub IsTaken : Shown → List (maybe.Option (Option T)) → List View → Type 0
  IsTaken log homes views = (i : ℕ) × (v : View) × (get_elem? views i ≡ some v) × (v.took ≡ Some log) × (homes ≡ emptied v.away ∷ [])

  abbrev pub Slot : Shown → List (maybe.Option (Option T)) → List View → Type 0
  Slot log homes views = IsIn log homes views ⊎ IsTaken log homes views

  pub record Kept (s : State (Option T) View) : Type 0 where
    pub next : ℕ
    pub turn : ℕ
    -- the one history, of the first value and the turns passed
    pub log : Shown
    pub words : s.words ≡ next % 2 ^ 64 ∷ turn % 2 ^ 64 ∷ []
    pub out : next ≡ turn + waiting s.views
    pub few : length s.views < 2 ^ 32
    pub slot : Slot log s.homes s.views
    pub each : (i : ℕ) (v : View) → get_elem? s.views i ≡ some v → IsSeated next turn log s.views i v
    pub apart : Apart s.views
    -- numbers not yet given have no entries
    pub unborn : (w : ℕ) → length s.views ≤ w → own_entries w log.entries ≡ []
    -- pass 0 counts the numbers given, and is never met
    pub head : (v : View) × (get_elem? s.views 0 ≡ some v) × (v.given ≡ length s.views) × (v.spent ≡ false)
