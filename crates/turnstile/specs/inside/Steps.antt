-- What each step of a turn tells its pass, of the seat before and after it.
use Rattle.std.specs.Prelude.{◌≡◌, ℕ, ◌%◌, ◌^◌, [], ◌∷◌, Option, Some, None, true, false}
use Rattle.atomic_table.specs.Table.{Me}
use Rattle.turnstile.specs.Entries.{own_entries, Shown}
use Rattle.turnstile.specs.Views.{left_with, IsTold, View}
use Rattle.turnstile.specs.Rule.{Knows}

module _ {T : Type 0} (shown : T → Shown) where
  abbrev Sat : Type 0
  Sat = Me (Option T) View

  -- a ticket that no other has
  abbrev pub drew : Sat → ℕ → Sat → Type 0
  drew m found m' = (t : ℕ) × (found ≡ t % 2 ^ 64) × (m' ≡ (record m.0 { ticket = Some t }, m.1))

  -- where the ticket is served the value was taken; else nothing changed
  abbrev pub looked : Sat → ℕ → Sat → Type 0
  looked m found m' = (t : ℕ) → m.0.ticket ≡ Some t → m.0.took ≡ None → m.0.spent ≡ false → m.1 ≡ []
      → (found ≡ t % 2 ^ 64 → (y : T) × (m' ≡ (record m.0 { took = Some (shown y); away = true }, (0, Some y) ∷ []))
      × Knows (shown y) m.0)
      × (¬ (found ≡ t % 2 ^ 64) → m' ≡ m)

  -- the value was put back, and the turn passed
  abbrev pub passed : Sat → ℕ → Sat → Type 0
  passed m found m' = (y : T) → m.1 ≡ (0, Some y) ∷ [] → m' ≡ (left_with (shown y) m.0, [])

  -- the empty slot goes home, so that the pass carries nothing while it has the value
  abbrev pub laid : Sat → ℕ → Sat → Type 0
  laid m found m' = m' ≡ (record m.0 { away = false }, [])

  -- and comes back before the value is put into it
  abbrev pub fetched : Sat → ℕ → Sat → Type 0
  fetched m found m' = m' ≡ (record m.0 { away = true }, (0, None) ∷ [])

  -- what two passes had seen that met, and that the next number has no entries in what pass 0 has seen
  abbrev pub recalled : Sat → ℕ → Sat → Type 0
  recalled m found m' = (m' ≡ m)
      × (m.0.spent ≡ false → IsTold m.0.left m.0.seen × IsTold m.0.right m.0.seen
      × (m.0.number ≡ 0 → own_entries m.0.given m.0.seen.entries ≡ []))

-- it has the ticket whose number modulo 2 ^ 64 is `found`
abbrev pub Waits : {T : Type 0} → ℕ → Me (Option T) View → Type 0
Waits found m = (t : ℕ) × (m.0.ticket ≡ Some t) × (found ≡ t % 2 ^ 64) × (m.0.took ≡ None) × (m.0.spent ≡ false) × (m.1 ≡ [])
