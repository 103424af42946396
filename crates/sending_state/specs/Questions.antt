-- What is asked of a state beside the questions of the rule book.
use Rattle.std.specs.Prelude.{ℕ, ◌==◌, List, Bool, false, not, ◌&&◌, Option, option_map, unwrap_or, filter, find, map}
use Rattle.queue_name.specs.declared.message.Message.{Message}
use Rattle.queue_name.specs.declared.criteria.Criteria.{Criteria}
use Rattle.queue_name.specs.Criteria.{matches}
use Rattle.policy_core.specs.Policy.{Policy}
use Rattle.history_core.specs.declared.entry.Entry.{Entry}
use Rattle.history_core.specs.declared.entry.Next.{Next}
use Rattle.history_core.specs.declared.path.Path.{Path}
use Rattle.history_core.specs.History.{message_with, text_of}
use Rattle.history_core.specs.Fate.{pending}
use Rattle.history_core.specs.Retry.{next_after}
use Rattle.history_core.specs.Connection.{Connection, connection_with, idle_connections, is_in_flight, open_anywhere}
use Rattle.history_core.specs.Limits.{limits}
use Rattle.history_core.specs.Openable.{next_to_open, verdict_of, is_work, lingers}

-- a path that may open a connection: its text, and the key that its rate of connections counts under
pub record PathToOpen : Type 0 where
  pub text : List ℕ
  pub key : ℕ

abbrev pub path_to_open : Policy → List Entry → ℕ → Path → PathToOpen
path_to_open policy h t p = record { text = text_of p; key = (limits policy h t p).connection_key }

-- the path that may open next
abbrev pub next_path_to_open : Policy → List Entry → ℕ → Option PathToOpen
next_path_to_open policy h t = option_map (path_to_open policy h t) (next_to_open policy h t)

-- the first connection of a pass that is open and not busy and may begin an attempt
abbrev pub first_reusable : Policy → List Entry → ℕ → ℕ → Option Connection
first_reusable policy h t who = find (λ c. c.who == who && is_work (verdict_of policy h t c)) (idle_connections h)

-- the connection of a number is kept though it has nothing to send now
abbrev pub lingers_now : Policy → List Entry → ℕ → ℕ → Bool
lingers_now policy h t conn = unwrap_or (option_map (lingers policy h t) (connection_with h conn)) false

-- the connections that are open and are not kept so
abbrev pub at_work : Policy → List Entry → ℕ → List Connection
at_work policy h t = filter (λ c. not (lingers policy h t c)) (open_anywhere h)

-- what comes of a failure of the message of an id
abbrev pub next_of : Policy → List Entry → ℕ → ℕ → Option Next
next_of policy h t id = option_map (next_after policy h t) (message_with h id)

-- a bounce of these criteria resolves the message at once: it is not being attempted
abbrev pub is_met : List Entry → Criteria → Message → Bool
is_met h criteria m = matches criteria m.name && not (is_in_flight h m.id)

-- the ids of the pending messages that a bounce of these criteria resolves at once, in order
abbrev pub met_by : List Entry → Criteria → List ℕ
met_by h criteria = map (λ m. m.id) (filter (is_met h criteria) (pending h))
