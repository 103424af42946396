-- What is kept of a connection after an attempt begins or ends on it, and of the refusals after a connection is closed.
use Rattle.std.specs.Prelude.{min, ◌-◌, Bool, ◌≡◌, ◌<◌, ◌+◌, ◌^◌, ℕ, true, false, Option, Some}
use Rattle.path_lease.specs.declared.connection.Connection.{Connection}

abbrev pub with_attempt : Connection → Connection
with_attempt w = record { beginnings = w.beginnings + 1; idle = w.idle; busy = true }

abbrev pub at_rest : ℕ → Connection → Connection
at_rest t w = record { beginnings = w.beginnings; idle = t; busy = false }

-- it is kept, and one more attempt is a number that fits
abbrev pub HasAttempts : Option Connection → Type 0
HasAttempts kept = (w : Connection) × (kept ≡ Some w) × (w.beginnings + 1 < 2 ^ 32)

-- the number of refusals in a row, with one more closing; it stands still at its type's end
abbrev pub refusals_with : Bool → ℕ → ℕ
refusals_with true was = min (was + 1) (2 ^ 32 - 1)
refusals_with false was = 0
