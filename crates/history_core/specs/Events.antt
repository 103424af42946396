-- What each event says: one question each. Lists and most states ask it here; `_` stands for the events that do not speak
-- of it, so this page is to be read whole when an event is added.
use Rattle.std.specs.Prelude.{ℕ, ◌==◌, List, Bool, true, false, Option, Some, None, if◌then◌else◌}
use Rattle.queue_name.specs.declared.message.Message.{Message}
use Rattle.smtp_reply.specs.declared.reply.Outcome.{Outcome}
use Rattle.smtp_reply.specs.declared.reply.Outcome.TheVariants.{Transient, Lost}
use Rattle.policy_core.specs.declared.orders.Order.{Order}
use Rattle.history_core.specs.declared.entry.Event.{Event}
use Rattle.history_core.specs.declared.entry.Event.TheVariants.{Recovered, Accepted, Known, Promoted, Opened, Begun, Ended, Closed, Delayed, Ordered, Resumed, Resolved, Stopped}
use Rattle.history_core.specs.declared.entry.Next.{Next}
use Rattle.history_core.specs.declared.entry.Next.TheVariants.{Settled, Due, Expired}
use Rattle.history_core.specs.declared.entry.Cause.{Cause}

-- there is a number, and it is this one
abbrev pub is_this : Option ℕ → ℕ → Bool
is_this None id = false
is_this (Some i) id = i == id

-- a message comes into the history
abbrev pub message_in : Event → Option Message
message_in (Recovered m failures due) = Some m
message_in (Accepted m) = Some m
message_in _ = None

-- the work begins with a message of the spool
abbrev pub recovered_in : Event → Option ℕ
recovered_in (Recovered m failures due) = Some m.id
recovered_in _ = None

-- a recovered message was handed in once more
abbrev pub known_in : Event → Option ℕ
known_in (Known id) = Some id
known_in _ = None

-- a message goes to the ready queue of its path from a source
pub record Promotion : Type 0 where
  pub id : ℕ
  pub source : List ℕ

abbrev pub promotion_in : Event → Option Promotion
promotion_in (Promoted id source) = Some (record { id = id; source = source })
promotion_in _ = None

-- a connection of a path is opened; the key is that of the rate that it counts under
pub record Opening : Type 0 where
  pub number : ℕ
  pub path : List ℕ
  pub key : ℕ

abbrev pub opening_in : Event → Option Opening
opening_in (Opened conn path key) = Some (record { number = conn; path = path; key = key })
opening_in _ = None

-- an attempt of a message begins on a connection; the key as above
pub record Beginning : Type 0 where
  pub conn : ℕ
  pub id : ℕ
  pub key : ℕ

abbrev pub beginning_in : Event → Option Beginning
beginning_in (Begun conn id key) = Some (record { conn = conn; id = id; key = key })
beginning_in _ = None

-- an attempt ends, and this became of it
pub record AttemptEnd : Type 0 where
  pub conn : ℕ
  pub id : ℕ
  pub outcome : Outcome

abbrev pub attempt_end_in : Event → Option AttemptEnd
attempt_end_in (Ended conn id outcome next) = Some (record { conn = conn; id = id; outcome = outcome })
attempt_end_in _ = None

-- a connection is closed
pub record Closing : Type 0 where
  pub conn : ℕ
  pub cause : Cause

abbrev pub closing_in : Event → Option Closing
closing_in (Closed conn cause) = Some (record { conn = conn; cause = cause })
closing_in _ = None

-- nothing comes after it
abbrev pub is_final : Next → Bool
is_final Settled = true
is_final (Due moment) = false
is_final Expired = true

-- a message gets its fate
abbrev pub settled_in : Event → Option ℕ
settled_in (Ended conn id outcome next) = if is_final next then Some id else None
settled_in (Delayed id next) = if is_final next then Some id else None
settled_in (Resolved id how) = Some id
settled_in _ = None

-- a message leaves its ready queue: it is begun, delayed or settled
abbrev pub taken_in : Event → Option ℕ
taken_in (Begun conn id key) = Some id
taken_in (Delayed id next) = Some id
taken_in e = settled_in e

-- a message fails: an attempt ends without a decision for good, or the message is delayed
abbrev pub failed_in : Event → Option ℕ
failed_in (Ended conn id (Transient reply) next) = Some id
failed_in (Ended conn id (Lost why) next) = Some id
failed_in (Delayed id next) = Some id
failed_in _ = None

-- the moment at which a message is due again
abbrev pub due_by : Next → Option ℕ
due_by (Due moment) = Some moment
due_by _ = None

-- an order is given; they are numbered from 1
pub record Given : Type 0 where
  pub number : ℕ
  pub order : Order

abbrev pub order_in : Event → Option Given
order_in (Ordered number order) = Some (record { number = number; order = order })
order_in _ = None

-- an order is over, by its number
abbrev pub resumed_in : Event → Option ℕ
resumed_in (Resumed number) = Some number
resumed_in _ = None

-- the work ends
abbrev pub is_stopped : Event → Bool
is_stopped Stopped = true
is_stopped _ = false
