-- When an entry is proper: its parts keep the rules of their own kind, whatever history it stands in.
use Rattle.std.specs.Prelude.{◌≤◌, ⊤}
use Rattle.kumo_base.specs.Limits.{latest_moment}
use Rattle.queue_name.specs.Message.{IsProperMessage}
use Rattle.smtp_reply.specs.ReplyText.{IsProperOutcome}
use Rattle.smtp_reply.specs.declared.reply.Outcome.{Outcome}
use Rattle.smtp_reply.specs.declared.reply.Outcome.TheVariants as outcome
use Rattle.policy_core.specs.declared.orders.Order.{Order}
use Rattle.policy_core.specs.declared.orders.Order.TheVariants as order
use Rattle.history_core.specs.declared.entry.Entry.{Entry}
use Rattle.history_core.specs.declared.entry.Event.{Event}
use Rattle.history_core.specs.declared.entry.Event.TheVariants.{Recovered, Accepted, Known, Promoted, Opened, Begun, Ended, Closed, Delayed, Ordered, Resumed, Resolved, Rested, Stopped}
use Rattle.history_core.specs.declared.entry.Next.{Next}
use Rattle.history_core.specs.declared.entry.Next.TheVariants.{Settled, Due, Expired}

-- settled exactly where a receiver decided for good; a moment to come is a moment
abbrev pub Fits : Outcome → Next → Type 0
Fits (outcome.Delivered r) Settled = ⊤
Fits (outcome.Delivered r) (Due moment) = ⊥
Fits (outcome.Delivered r) Expired = ⊥
Fits (outcome.Permanent r) Settled = ⊤
Fits (outcome.Permanent r) (Due moment) = ⊥
Fits (outcome.Permanent r) Expired = ⊥
Fits (outcome.Transient r) Settled = ⊥
Fits (outcome.Transient r) (Due moment) = moment ≤ latest_moment
Fits (outcome.Transient r) Expired = ⊤
Fits (outcome.Lost why) Settled = ⊥
Fits (outcome.Lost why) (Due moment) = moment ≤ latest_moment
Fits (outcome.Lost why) Expired = ⊤

-- a message that is delayed is not settled by a receiver
abbrev pub FitsDelay : Next → Type 0
FitsDelay Settled = ⊥
FitsDelay (Due moment) = moment ≤ latest_moment
FitsDelay Expired = ⊤

-- a resumption is no order that is given
abbrev pub IsGivable : Order → Type 0
IsGivable (order.Resume number) = ⊥
IsGivable _ = ⊤

abbrev pub IsProperEvent : Event → Type 0
IsProperEvent (Recovered m failures due) = IsProperMessage m × (due ≤ latest_moment)
IsProperEvent (Accepted m) = IsProperMessage m
IsProperEvent (Known id) = ⊤
IsProperEvent (Promoted id source) = ⊤
IsProperEvent (Opened conn path key) = ⊤
IsProperEvent (Begun conn id key) = ⊤
IsProperEvent (Ended conn id decided next) = IsProperOutcome decided × Fits decided next
IsProperEvent (Closed conn why) = ⊤
IsProperEvent (Delayed id next) = FitsDelay next
IsProperEvent (Ordered number given) = IsGivable given
IsProperEvent (Resumed number) = ⊤
IsProperEvent (Resolved id how) = ⊤
IsProperEvent (Rested until) = until ≤ latest_moment
IsProperEvent Stopped = ⊤

pub record IsProperEntry (e : Entry) : Type 0 where
  pub moment : e.at ≤ latest_moment
  pub event : IsProperEvent e.what
