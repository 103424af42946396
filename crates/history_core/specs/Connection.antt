-- Connections, and what they are busy with.
use Rattle.std.specs.Prelude.{ℕ, ◌==◌, List, Bool, not, ◌&&◌, Option, Some, None, is_none, option_map, filter, filter_map, fold, find, count_by, bytes_eq, if◌then◌else◌, IsTrue}
use Rattle.std.specs.List.{list_any}
use Rattle.history_core.specs.declared.entry.Entry.{Entry}
use Rattle.history_core.specs.declared.entry.Event.{Event}
use Rattle.history_core.specs.declared.entry.Event.TheVariants.{Begun, Ended}
use Rattle.history_core.specs.Events.{opening_in, closing_in, beginning_in, attempt_end_in, is_this}

-- a connection as its Opened entry has it
pub record Connection : Type 0 where
  pub number : ℕ
  pub path : List ℕ
  pub who : ℕ
  pub at : ℕ
  pub key : ℕ

abbrev pub connection_in : Entry → Option Connection
connection_in e =
    option_map (λ o. record { number = o.number; path = o.path; who = e.who; at = e.at; key = o.key }) (opening_in e.what)

-- all that were opened, in order
abbrev pub connections : List Entry → List Connection
connections h = filter_map connection_in h

abbrev pub connection_with : List Entry → ℕ → Option Connection
connection_with h conn = find (λ c. c.number == conn) (connections h)

-- the text of a connection's path
abbrev pub path_of_connection : List Entry → ℕ → Option (List ℕ)
path_of_connection h conn = option_map (λ c. c.path) (connection_with h conn)

abbrev pub is_closed : List Entry → ℕ → Bool
is_closed h conn = list_any (λ e. is_this (option_map (λ c. c.conn) (closing_in e.what)) conn) h

-- those that were not closed
abbrev pub open_anywhere : List Entry → List Connection
open_anywhere h = filter (λ c. not (is_closed h c.number)) (connections h)

-- those of them that are of the path of this text
abbrev pub open_connections : List Entry → List ℕ → List Connection
open_connections h path = filter (λ c. bytes_eq c.path path) (open_anywhere h)

-- a connection that is open and was opened by this pass
abbrev pub is_live_for : List Entry → ℕ → ℕ → Bool
is_live_for h conn who = list_any (λ c. c.number == conn && c.who == who) (open_anywhere h)

abbrev pub IsLiveFor : List Entry → ℕ → ℕ → Type 0
IsLiveFor h conn who = IsTrue (is_live_for h conn who)

-- how many attempts began on the connection
abbrev pub used : List Entry → ℕ → ℕ
used h conn = count_by (λ e. is_this (option_map (λ b. b.conn) (beginning_in e.what)) conn) h

-- what the connection is busy with after an event: the message of an attempt, from its beginning until it ends
abbrev pub busy_after : ℕ → Option ℕ → Event → Option ℕ
busy_after conn was (Begun c id key) = if c == conn then Some id else was
busy_after conn was (Ended c id outcome next) = if c == conn then None else was
busy_after conn was _ = was

-- the message of the attempt that began on the connection and has not ended
abbrev pub busy_with : List Entry → ℕ → Option ℕ
busy_with h conn = fold (λ was e. busy_after conn was e.what) None h

-- some connection is busy with the message
abbrev pub is_in_flight : List Entry → ℕ → Bool
is_in_flight h id = list_any (λ c. is_this (busy_with h c.number) id) (connections h)

-- the connections that are open and not busy
abbrev pub idle_connections : List Entry → List Connection
idle_connections h = filter (λ c. is_none (busy_with h c.number)) (open_anywhere h)

abbrev pub idle_after : ℕ → ℕ → Entry → ℕ
idle_after conn was e = if is_this (option_map (λ a. a.conn) (attempt_end_in e.what)) conn then e.at else was

-- since when a connection that is not busy has had nothing to send: its last attempt's end, else its opening
abbrev pub idle_since : List Entry → Connection → ℕ
idle_since h c = fold (idle_after c.number) c.at h
