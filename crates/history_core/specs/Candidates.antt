-- Which messages may be resolved, delayed or promoted, and by which source (KumoMTA's manual, egress pools, for the rotation).
use Rattle.std.specs.Prelude.{ℕ, ◌+◌, ◌==◌, ◌%◌, nat_lt, nat_le, List, [], ◌∷◌, length, Bool, false, not, ◌&&◌, ◌||◌, Option, Some, None, is_some, option_map, option_and_then, map, find, fold, bytes_eq, slice_get, if◌then◌else◌}
use Rattle.std.specs.List.{list_any}
use Rattle.std.specs.Option.{option_or}
use Rattle.queue_name.specs.declared.message.Message.{Message}
use Rattle.policy_core.specs.Policy.{Policy}
use Rattle.policy_core.specs.Rotation.{Place, rotation, pick}
use Rattle.policy_core.specs.declared.sources.Pool.{Pool}
use Rattle.history_core.specs.declared.entry.Entry.{Entry}
use Rattle.history_core.specs.declared.entry.Cause.{Cause}
use Rattle.history_core.specs.declared.entry.Cause.TheVariants.{Refused}
use Rattle.history_core.specs.declared.path.Path.{Path}
use Rattle.history_core.specs.declared.path.Promoted.{Promoted}
use Rattle.history_core.specs.Events.{Promotion, promotion_in, opening_in, closing_in}
use Rattle.history_core.specs.History.{along, message_with, path_for, text_of}
use Rattle.history_core.specs.Retry.{settings_for, due, is_aged}
use Rattle.history_core.specs.LiveOrders.{bounced_by}
use Rattle.history_core.specs.Connection.{is_in_flight, path_of_connection}
use Rattle.history_core.specs.Firing.{is_halted, is_free}
use Rattle.history_core.specs.Limits.{limits, is_text}
use Rattle.history_core.specs.Ready.{standing_promotions, ready, is_ready}

-- the pool of a message's queue
abbrev pub pool_of : Policy → Message → Option Pool
pool_of policy m = find (λ pool. bytes_eq pool.name (settings_for policy m).pool) policy.sources.pools

-- which entrants of a pool are this source
abbrev pub is_source : List ℕ → Pool → List Bool
is_source source pool = map (λ entrant. bytes_eq entrant.source source) pool.entrants

-- the rotation moves on to the next turn of a source
abbrev pub turned : Pool → Option Place → List ℕ → Option Place
turned pool was source = option_or (pick (rotation pool) (is_source source pool) was) was

abbrev pub has_pool_name : List ℕ → Option Pool → Bool
has_pool_name name None = false
has_pool_name name (Some pool) = bytes_eq pool.name name

abbrev pub source_if : Policy → Pool → Promotion → Option Message → List (List ℕ)
source_if policy pool p None = []
source_if policy pool p (Some m) = if has_pool_name pool.name (pool_of policy m) then p.source ∷ [] else []

abbrev pub source_taken : Policy → Pool → List Entry → Option Promotion → List (List ℕ)
source_taken policy pool before None = []
source_taken policy pool before (Some p) = source_if policy pool p (message_with before p.id)

-- the sources that messages of the pool were promoted to, in order
abbrev pub sources_taken : Policy → Pool → List Entry → List (List ℕ)
sources_taken policy pool h = along (λ before e. source_taken policy pool before (promotion_in e.what)) h

-- the place of the pool's last pick in its rotation
abbrev pub place_of : Policy → Pool → List Entry → Option Place
place_of policy pool h = fold (turned pool) None (sources_taken policy pool h)

-- the path may take one more ready message
abbrev pub has_room : Policy → List Entry → ℕ → Path → Bool
has_room policy h t p = not (is_halted policy h t p) && nat_lt (length (ready policy h p)) (limits policy h t p).ready_limit

abbrev pub eligible : Policy → List Entry → ℕ → Message → Pool → List Bool
eligible policy h t m pool = map (λ entrant. has_room policy h t (path_for policy m entrant.source)) pool.entrants

abbrev pub source_at : Pool → Place → Option (List ℕ)
source_at pool place = option_map (λ entrant. entrant.source) (slice_get pool.entrants place.entrant)

abbrev pub pick_from : Policy → List Entry → ℕ → Message → Pool → Option (List ℕ)
pick_from policy h t m pool =
    option_and_then (source_at pool) (pick (rotation pool) (eligible policy h t m pool) (place_of policy pool h))

-- the source that the rotation of the message's pool picks for it, of those whose path has room
abbrev pub pick_for : Policy → List Entry → ℕ → Message → Option (List ℕ)
pick_for policy h t m = option_and_then (pick_from policy h t m) (pool_of policy m)

-- a live bounce meets the message, or it is too old, and it is not being attempted
abbrev pub is_resolvable : Policy → List Entry → ℕ → Message → Bool
is_resolvable policy h t m = not (is_in_flight h m.id) && (is_some (bounced_by h t m.name) || is_aged policy t m)

-- an opening or a closing of a path: the place of the entry in the history, and the cause where it is a closing
pub record Passage : Type 0 where
  pub place : ℕ
  pub cause : Option Cause

abbrev pub opened_by : Entry → Option (List ℕ)
opened_by e = option_map (λ o. o.path) (opening_in e.what)

abbrev pub closed_by : List Entry → Entry → Option (List ℕ)
closed_by before e = option_and_then (λ c. path_of_connection before c.conn) (closing_in e.what)

abbrev pub passage_at : List ℕ → List Entry → Entry → List Passage
passage_at path before e =
    if is_text (option_or (opened_by e) (closed_by before e)) path
    then record { place = length before; cause = option_map (λ c. c.cause) (closing_in e.what) } ∷ [] else []

-- the openings and closings of the path of a text, in order
abbrev pub passages : List Entry → List ℕ → List Passage
passages h path = along (passage_at path) h

abbrev pub refused_at : ℕ → Option Cause → Option ℕ
refused_at place (Some Refused) = Some place
refused_at place _ = None

-- the place of the refused connection that is the path's last opening or closing
abbrev pub last_refusal : List Entry → List ℕ → Option ℕ
last_refusal h path = fold (λ was p. refused_at p.place p.cause) None (passages h path)

abbrev pub run_after : ℕ → Option Cause → ℕ
run_after was None = was
run_after was (Some Refused) = was + 1
run_after was (Some other) = 0

-- how many connections of the path were refused since one was closed for another cause
abbrev pub refusals : List Entry → List ℕ → ℕ
refusals h path = fold (λ was p. run_after was p.cause) 0 (passages h path)

abbrev pub is_positive_multiple : ℕ → ℕ → Bool
is_positive_multiple n k = nat_lt 0 n && nat_lt 0 k && n % k == 0

abbrev pub is_before : ℕ → Option ℕ → Bool
is_before place None = false
is_before place (Some other) = nat_lt place other

-- a standing promotion whose path was refused since, and often enough
abbrev pub is_put_off : Policy → List Entry → ℕ → Promoted → Bool
is_put_off policy h t p =
    is_before p.place (last_refusal h (text_of p.path))
    && is_positive_multiple (refusals h (text_of p.path)) (limits policy h t p.path).failures_before_delay

-- the message is ready, and the refusals of its path delay it
abbrev pub is_delayable : Policy → List Entry → ℕ → Message → Bool
is_delayable policy h t m = list_any (λ p. p.id == m.id && is_put_off policy h t p) (standing_promotions policy h)

-- the message is due, nothing holds it back, and a source is picked for it
abbrev pub is_promotable : Policy → List Entry → ℕ → Message → Bool
is_promotable policy h t m =
    not (is_ready h m.id) && not (is_in_flight h m.id) && nat_le (due h m) t && is_free policy h t m
    && is_some (pick_for policy h t m)
