-- A connection as the code holds it, and tests of what may be there.
use Rattle.std.specs.Prelude.{List, Bool, false, Option, Some, None, is_none, option_and_then, if◌then◌else◌}
use Rattle.history_core.specs.declared.entry.Entry.{Entry}
use Rattle.history_core.specs.Connection.{Connection, connection_in, is_closed, busy_with}
use Rattle.history_views.specs.declared.connections.Opened.{Opened}

abbrev pub connection_of : Opened → Connection
connection_of o = record { number = o.number; path = o.path.now; who = o.who; at = o.at; key = o.key }

-- something is there and passes a test
abbrev pub some_passes : {B : Type 0} → (B → Bool) → Option B → Bool
some_passes test None = false
some_passes test (Some b) = test b

-- the connection that an entry opens, where it was not closed
abbrev pub open_in : List Entry → Entry → Option Connection
open_in h e = option_and_then (λ c. if is_closed h c.number then None else Some c) (connection_in e)

-- and where it is not busy
abbrev pub idle_in : List Entry → Entry → Option Connection
idle_in h e = option_and_then (λ c. if is_none (busy_with h c.number) then Some c else None) (open_in h e)
