-- The calls made on a path, in order, and what is counted over them.
use Rattle.std.specs.Prelude.{ℕ, ◌+◌, ◌==◌, List, length, Bool, true, false, not, ◌&&◌, Option, Some, None, filter, filter_map, map, fold, count_by, if◌then◌else◌}
use Rattle.std.specs.List.{list_any}
use Rattle.kumo_base.specs.Moment.{clamped}

pub data Call : Type 0 where
  -- at a moment a connection of a number is opened, under a key of the rate of connections
  opening : ℕ → ℕ → ℕ → Call
  -- at a moment an attempt begins on a connection, under a key of the rate of messages
  beginning : ℕ → ℕ → ℕ → Call
  -- at a moment the attempt on a connection ends
  ending : ℕ → ℕ → Call
  -- a connection is closed: the far side refused it, or not
  closing : ℕ → Bool → Call

-- when, on which connection and under which key something started: an opening, or an attempt
pub record Start : Type 0 where
  pub at : ℕ
  pub conn : ℕ
  pub key : ℕ

abbrev pub opening_in : Call → Option Start
opening_in (opening t conn key) = Some (record { at = t; conn = conn; key = key })
opening_in _ = None

abbrev pub beginning_in : Call → Option Start
beginning_in (beginning t conn key) = Some (record { at = t; conn = conn; key = key })
beginning_in _ = None

abbrev pub openings : List Call → List Start
openings calls = filter_map opening_in calls

abbrev pub beginnings : List Call → List Start
beginnings calls = filter_map beginning_in calls

-- the moments of those under a key
abbrev pub moments_under : ℕ → List Start → List ℕ
moments_under key entries = map (λ e. clamped e.at) (filter (λ e. e.key == key) entries)

-- the moments at which connections were opened under a key
abbrev pub openings_under : List Call → ℕ → List ℕ
openings_under calls key = moments_under key (openings calls)

-- the moments at which attempts began under a key
abbrev pub beginnings_under : List Call → ℕ → List ℕ
beginnings_under calls key = moments_under key (beginnings calls)

abbrev pub closes : ℕ → Call → Bool
closes conn (closing c refused) = c == conn
closes conn _ = false

abbrev pub was_opened : List Call → ℕ → Bool
was_opened calls conn = list_any (λ o. o.conn == conn) (openings calls)

abbrev pub was_closed : List Call → ℕ → Bool
was_closed calls conn = list_any (closes conn) calls

abbrev pub is_open : List Call → ℕ → Bool
is_open calls conn = was_opened calls conn && not (was_closed calls conn)

-- how many connections were opened and not closed
abbrev pub open_count : List Call → ℕ
open_count calls = length (filter (λ o. not (was_closed calls o.conn)) (openings calls))

-- how many attempts began on a connection
abbrev pub used : List Call → ℕ → ℕ
used calls conn = count_by (λ b. b.conn == conn) (beginnings calls)

abbrev pub busy_after : ℕ → Bool → Call → Bool
busy_after conn was (beginning t c key) = if c == conn then true else was
busy_after conn was (ending t c) = if c == conn then false else was
busy_after conn was _ = was

-- the last attempt that began on a connection has not ended
abbrev pub is_busy : List Call → ℕ → Bool
is_busy calls conn = fold (busy_after conn) false calls

abbrev pub idle_after : ℕ → ℕ → Call → ℕ
idle_after conn was (opening t c key) = if c == conn then t else was
idle_after conn was (ending t c) = if c == conn then t else was
idle_after conn was _ = was

-- since when a connection that is not busy has had nothing to send: the later of its opening and its last attempt's end
abbrev pub idle_since : List Call → ℕ → ℕ
idle_since calls conn = fold (idle_after conn) 0 calls

abbrev pub is_idle : List Call → ℕ → Bool
is_idle calls conn = is_open calls conn && not (is_busy calls conn)

abbrev pub is_working : List Call → ℕ → Bool
is_working calls conn = is_open calls conn && is_busy calls conn

abbrev pub refusals_after : ℕ → Call → ℕ
refusals_after was (closing conn true) = was + 1
refusals_after was (closing conn false) = 0
refusals_after was _ = was

-- how many connections were refused since one was closed for another cause
abbrev pub refusals : List Call → ℕ
refusals calls = fold refusals_after 0 calls
