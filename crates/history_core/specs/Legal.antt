-- Which entry may follow which history, and which history is legal.
use Rattle.std.specs.Prelude.{◌≡◌, ◌≢◌, ◌⊎◌, ℕ, ◌+◌, ◌==◌, ◌≤◌, List, [], ◌∷◌, ◌++◌, false, Some, None, is_some, length, find, fold, IsTrue, ⊤}
use Rattle.std.specs.List.{list_any, list_all}
use Rattle.queue_name.specs.declared.message.Message.{Message}
use Rattle.smtp_reply.specs.declared.reply.Outcome.{Outcome}
use Rattle.smtp_reply.specs.declared.reply.Outcome.TheVariants as outcome
use Rattle.policy_core.specs.Policy.{Policy}
use Rattle.history_core.specs.declared.entry.Entry.{Entry}
use Rattle.history_core.specs.declared.entry.Event.{Event}
use Rattle.history_core.specs.declared.entry.Event.TheVariants.{Recovered, Accepted, Known, Promoted, Opened, Begun, Ended, Closed, Delayed, Ordered, Resumed, Resolved, Rested, Stopped}
use Rattle.history_core.specs.declared.entry.Next.{Next}
use Rattle.history_core.specs.declared.entry.Next.TheVariants.{Settled}
use Rattle.history_core.specs.declared.entry.Cause.{Cause}
use Rattle.history_core.specs.declared.entry.Cause.TheVariants as cause
use Rattle.history_core.specs.declared.path.Path.{Path}
use Rattle.history_core.specs.Events.{recovered_in, known_in, is_this}
use Rattle.history_core.specs.History.{messages, message_with, has_id, has_stopped, last_moment, text_of, paths}
use Rattle.history_core.specs.Fate.{pending}
use Rattle.history_core.specs.Retry.{next_after}
use Rattle.history_core.specs.LiveOrders.{orders, live_orders, bounced_by}
use Rattle.history_core.specs.Connection.{connections, open_anywhere, IsLiveFor, busy_with}
use Rattle.history_core.specs.Limits.{limits}
use Rattle.history_core.specs.Candidates.{is_resolvable, is_delayable}
use Rattle.history_core.specs.Openable.{is_openable, next_to_open, verdict, stale, work, reusable, lingers, message_key}
use Rattle.history_core.specs.Sweep.{next_swept, how_by}
use Rattle.history_core.specs.Wake.{wake}
use Rattle.history_core.specs.Proper.{IsProperEntry}

-- the messages of the spool come first; one that never failed is due when it was made
abbrev pub RecoveredRow : List Entry → ℕ → Message → ℕ → ℕ → Type 0
RecoveredRow h who m failed due_at =
    IsTrue (list_all (λ e. is_some (recovered_in e.what)) h) × (list_any (has_id m.id) (messages h) ≡ false) × (who ≡ 0)
    × (failed ≡ 0 → due_at ≡ m.created)

-- the message was recovered, is pending, and was not handed in again
abbrev pub KnownRow : List Entry → ℕ → Type 0
KnownRow h id =
    IsTrue (list_any (λ e. is_this (recovered_in e.what) id) h) × IsTrue (list_any (has_id id) (pending h))
    × (list_any (λ e. is_this (known_in e.what) id) h ≡ false)

-- nothing is left for the sweep, no kept connection of the pass may begin, and the path is the next to open
abbrev pub OpenedRow : Policy → List Entry → ℕ → ℕ → ℕ → List ℕ → ℕ → Type 0
OpenedRow policy h t who conn path key =
    (next_swept policy h t ≡ None) × (reusable policy h t who ≡ []) × (conn ≡ length (connections h) + 1)
    × (p : Path) × (next_to_open policy h t ≡ Some p) × (path ≡ text_of p) × (key ≡ (limits policy h t p).connection_key)

-- the connection is not busy, and its first free ready message is begun
abbrev pub BegunRow : Policy → List Entry → ℕ → ℕ → ℕ → ℕ → ℕ → Type 0
BegunRow policy h t who conn id key =
    IsLiveFor h conn who × (busy_with h conn ≡ None) × (verdict policy h t conn ≡ Some (work id))
    × (message_key policy h t conn ≡ Some key)

-- what comes of an attempt: the receiver decided for good, or the message failed
abbrev pub EndedNext : Policy → List Entry → ℕ → Message → Outcome → Next → Type 0
EndedNext policy h t m (outcome.Delivered r) next = next ≡ Settled
EndedNext policy h t m (outcome.Permanent r) next = next ≡ Settled
EndedNext policy h t m (outcome.Transient r) next = next ≡ next_after policy h t m
EndedNext policy h t m (outcome.Lost why) next = next ≡ next_after policy h t m

abbrev pub EndedRow : Policy → List Entry → ℕ → ℕ → ℕ → ℕ → Outcome → Next → Type 0
EndedRow policy h t who conn id decided next =
    IsLiveFor h conn who × (busy_with h conn ≡ Some id)
    × (m : Message) × (message_with h id ≡ Some m) × EndedNext policy h t m decided next

-- only a stale connection is closed as idle
abbrev pub ClosedCause : Policy → List Entry → ℕ → ℕ → Cause → Type 0
ClosedCause policy h t conn cause.Idle = verdict policy h t conn ≡ Some stale
ClosedCause policy h t conn _ = ⊤

-- the pending message of an id, of which this holds
abbrev pub PendingMessage : List Entry → ℕ → (Message → Type 0) → Type 0
PendingMessage h id P = (m : Message) × (find (has_id id) (pending h) ≡ Some m) × P m

-- something is pending, nothing may happen, and every open connection is kept
abbrev pub RestedRow : Policy → List Entry → ℕ → ℕ → Type 0
RestedRow policy h t until =
    (pending h ≢ []) × (next_swept policy h t ≡ None) × (list_any (is_openable policy h t) (paths policy h) ≡ false)
    × IsTrue (list_all (lingers policy h t) (open_anywhere h)) × (until ≡ wake policy h t)

abbrev pub horizon : Policy → ℕ
horizon policy = fold (λ was stop. stop) 0 policy.stops

-- what holds where the event may come at a moment after the history, by a pass
abbrev pub Row : Policy → List Entry → ℕ → ℕ → Event → Type 0
Row policy h t who (Recovered m failed due_at) = RecoveredRow h who m failed due_at
Row policy h t who (Accepted m) = list_any (has_id m.id) (messages h) ≡ false
Row policy h t who (Known id) = KnownRow h id
Row policy h t who (Promoted id source) = next_swept policy h t ≡ Some (Promoted id source)
Row policy h t who (Opened conn path key) = OpenedRow policy h t who conn path key
Row policy h t who (Begun conn id key) = BegunRow policy h t who conn id key
Row policy h t who (Ended conn id decided next) = EndedRow policy h t who conn id decided next
Row policy h t who (Closed conn why) = IsLiveFor h conn who × (busy_with h conn ≡ None) × ClosedCause policy h t conn why
Row policy h t who (Delayed id next) =
    PendingMessage h id (λ m. IsTrue (is_delayable policy h t m) × (next ≡ next_after policy h t m))
Row policy h t who (Ordered number order) = number ≡ length (orders h) + 1
Row policy h t who (Resumed number) = IsTrue (list_any (λ o. o.number == number) (live_orders h t))
Row policy h t who (Resolved id how) =
    PendingMessage h id (λ m. IsTrue (is_resolvable policy h t m) × (how ≡ how_by (bounced_by h t m.name)))
Row policy h t who (Rested until) = RestedRow policy h t until
Row policy h t who Stopped = (open_anywhere h ≡ []) × ((pending h ≡ []) ⊎ (horizon policy ≤ t))

-- the work has not ended, the entry is proper and not before the last one, and the row of its event holds
pub record MayFollow (policy : Policy) (h : List Entry) (e : Entry) : Type 0 where
  pub running : has_stopped h ≡ false
  pub proper : IsProperEntry e
  pub later : last_moment h ≤ e.at
  pub row : Row policy h e.at e.who e.what

-- each entry may follow those before it
abbrev pub LegalAfter : Policy → List Entry → List Entry → Type 0
LegalAfter policy before [] = ⊤
LegalAfter policy before (e ∷ later) = MayFollow policy before e × LegalAfter policy (before ++ e ∷ []) later

abbrev pub IsLegal : Policy → List Entry → Type 0
IsLegal policy h = LegalAfter policy [] h
