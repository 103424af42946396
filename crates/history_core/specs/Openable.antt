-- Which path may open a connection next, and what a connection may do next.
use Rattle.std.specs.Prelude.{ℕ, ◌+◌, ◌==◌, nat_lt, nat_le, List, [], ◌∷◌, length, Bool, true, false, not, ◌&&◌, Option, Some, None, is_some, option_map, option_and_then, filter, fold, bytes_eq, if◌then◌else◌}
use Rattle.std.specs.List.{list_any}
use Rattle.kumo_base.specs.Moment.{clamped}
use Rattle.throttle_spec.specs.Rates.{admits, least_by_rate}
use Rattle.policy_core.specs.Policy.{Policy}
use Rattle.history_core.specs.declared.entry.Entry.{Entry}
use Rattle.history_core.specs.declared.path.Path.{Path}
use Rattle.history_core.specs.History.{text_of, paths, path_named}
use Rattle.history_core.specs.Connection.{Connection, connections, connection_with, path_of_connection, open_connections, idle_connections, used, idle_since}
use Rattle.history_core.specs.Firing.{is_halted}
use Rattle.history_core.specs.Limits.{limits, opened_moments, begun_moments}
use Rattle.history_core.specs.Ready.{first_free}

-- the rate of connections of the path admits one at a moment
abbrev pub admits_opening : Policy → List Entry → ℕ → Path → Bool
admits_opening policy h t p =
    let now = limits policy h t p in
    admits now.connection_rate (opened_moments h (text_of p) now.connection_key) t

-- its rate of messages admits an attempt
abbrev pub admits_beginning : Policy → List Entry → ℕ → Path → Bool
admits_beginning policy h t p =
    let now = limits policy h t p in
    admits now.message_rate (begun_moments h (text_of p) now.message_key) t

-- not halted, below its limit of connections, a free ready message, and both rates admit the moment
abbrev pub is_openable : Policy → List Entry → ℕ → Path → Bool
is_openable policy h t p =
    not (is_halted policy h t p)
    && nat_lt (length (open_connections h (text_of p))) (limits policy h t p).connection_limit
    && is_some (first_free policy h t p)
    && admits_opening policy h t p
    && admits_beginning policy h t p

-- the rank of a path after a connection: one more than the moment of its opening, where it is of the path
abbrev pub rank_after : List ℕ → ℕ → Connection → ℕ
rank_after path was c = if bytes_eq c.path path then c.at + 1 else was

-- one more than the moment of the last opening of the path of a text, 0 where it was never opened
abbrev pub opened_rank : List Entry → List ℕ → ℕ
opened_rank h path = fold (rank_after path) 0 (connections h)

abbrev pub lesser : {A : Type 0} → (A → ℕ) → A → Option A → Option A
lesser rank item None = Some item
lesser rank item (Some other) = if nat_le (rank item) (rank other) then Some item else Some other

-- the first of those with the least rank
abbrev pub least_by : {A : Type 0} → (A → ℕ) → List A → Option A
least_by rank [] = None
least_by rank (item ∷ items) = lesser rank item (least_by rank items)

-- the openable path whose last opening is earliest, the first promoted among equals
abbrev pub next_to_open : Policy → List Entry → ℕ → Option Path
next_to_open policy h t = least_by (λ p. opened_rank h (text_of p)) (filter (is_openable policy h t) (paths policy h))

-- what a connection may do
pub data Verdict : Type 0 where
  -- it has had nothing to send for the path's idle timeout
  stale : Verdict
  -- it has had its number of attempts
  spent : Verdict
  -- its path has more open connections than the limit
  shed : Verdict
  -- its path is halted
  halted : Verdict
  -- the rate of messages admits none before this moment
  throttled : ℕ → Verdict
  -- no ready message is free
  empty : Verdict
  -- the message to attempt
  work : ℕ → Verdict

abbrev pub is_past : Option ℕ → ℕ → ℕ → Bool
is_past None since t = false
is_past (Some timeout) since t = nat_le (clamped (since + timeout)) t

-- the path's idle timeout has passed since its last attempt ended, or since its opening
abbrev pub is_stale : Policy → List Entry → ℕ → Path → Connection → Bool
is_stale policy h t p c = is_past (limits policy h t p).idle_timeout (idle_since h c) t

abbrev pub first_or_empty : Option ℕ → Verdict
first_or_empty None = empty
first_or_empty (Some id) = work id

-- the least moment at which its rate of messages admits an attempt
abbrev pub next_beginning : Policy → List Entry → ℕ → Path → ℕ
next_beginning policy h t p =
    let now = limits policy h t p in
    least_by_rate now.message_rate (begun_moments h (text_of p) now.message_key) t

-- the first that holds of a connection of the path
abbrev pub verdict_on : Policy → List Entry → ℕ → Path → Connection → Verdict
verdict_on policy h t p c =
    if is_stale policy h t p c then stale
    else (if nat_le (limits policy h t p).deliveries (used h c.number) then spent
    else (if nat_lt (limits policy h t p).connection_limit (length (open_connections h (text_of p))) then shed
    else (if is_halted policy h t p then halted
    else (if not (admits_beginning policy h t p) then throttled (next_beginning policy h t p)
    else first_or_empty (first_free policy h t p)))))

abbrev pub verdict_of : Policy → List Entry → ℕ → Connection → Option Verdict
verdict_of policy h t c = option_map (λ p. verdict_on policy h t p c) (path_named policy h c.path)

-- what the connection of a number may do at a moment
abbrev pub verdict : Policy → List Entry → ℕ → ℕ → Option Verdict
verdict policy h t conn = option_and_then (verdict_of policy h t) (connection_with h conn)

abbrev pub is_work : Option Verdict → Bool
is_work (Some (work id)) = true
is_work _ = false

-- the connections of a pass that are open and not busy and may begin an attempt
abbrev pub reusable : Policy → List Entry → ℕ → ℕ → List Connection
reusable policy h t who = filter (λ c. c.who == who && is_work (verdict_of policy h t c)) (idle_connections h)

abbrev pub may_linger : Option Verdict → Bool
may_linger (Some (throttled u)) = true
may_linger (Some empty) = true
may_linger _ = false

abbrev pub has_idle_timeout : Policy → List Entry → ℕ → Option Path → Bool
has_idle_timeout policy h t None = false
has_idle_timeout policy h t (Some p) = is_some (limits policy h t p).idle_timeout

-- a connection is kept though it has nothing to send now: its path has an idle timeout, and a message may come for it
abbrev pub lingers : Policy → List Entry → ℕ → Connection → Bool
lingers policy h t c =
    has_idle_timeout policy h t (path_named policy h c.path)
    && list_any (λ d. d.number == c.number) (idle_connections h)
    && may_linger (verdict_of policy h t c)

-- the number of the rule that its path's rate of messages is from
abbrev pub message_key : Policy → List Entry → ℕ → ℕ → Option ℕ
message_key policy h t conn =
    option_map (λ p. (limits policy h t p).message_key) (option_and_then (path_named policy h) (path_of_connection h conn))
