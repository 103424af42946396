-- When a message is tried again, and when it is too old (KumoMTA's manual, `max_age` and `retry_interval`).
use Rattle.std.specs.Prelude.{ℕ, ◌+◌, ◌-◌, ◌==◌, nat_lt, min, List, Bool, unwrap_or, map, fold, if◌then◌else◌}
use Rattle.kumo_base.specs.Moment.{clamped}
use Rattle.queue_name.specs.declared.message.Message.{Message}
use Rattle.policy_core.specs.Policy.{Policy}
use Rattle.policy_core.specs.Layers.{settings_of}
use Rattle.policy_core.specs.Delays.{delay_after}
use Rattle.policy_core.specs.declared.settings.Settings.{Settings}
use Rattle.history_core.specs.declared.entry.Entry.{Entry}
use Rattle.history_core.specs.declared.entry.Event.{Event}
use Rattle.history_core.specs.declared.entry.Event.TheVariants.{Recovered, Ended, Delayed}
use Rattle.history_core.specs.declared.entry.Next.{Next}
use Rattle.history_core.specs.declared.entry.Next.TheVariants.{Due, Expired}
use Rattle.history_core.specs.Events.{failed_in, due_by, is_this}
use Rattle.history_core.specs.Fate.{pending}

-- the count of failures stands still at its end
abbrev pub greatest_failures : ℕ
greatest_failures = 4294967295

abbrev pub one_more_failure : ℕ → ℕ
one_more_failure n = min (n + 1) greatest_failures

-- the failures of a message after an event: those that it was recovered with, and one for each since
abbrev pub failures_after : ℕ → ℕ → Event → ℕ
failures_after id was (Recovered m failures due) = if m.id == id then failures else was
failures_after id was e = if is_this (failed_in e) id then one_more_failure was else was

abbrev pub failures : List Entry → ℕ → ℕ
failures h id = fold (λ was e. failures_after id was e.what) 0 h

-- the moment at which a message is due after an event: that of the last failure, else the one that it was recovered with
abbrev pub due_after : ℕ → ℕ → Event → ℕ
due_after id was (Recovered m failures due) = if m.id == id then due else was
due_after id was (Ended conn of outcome next) = if of == id then unwrap_or (due_by next) was else was
due_after id was (Delayed of next) = if of == id then unwrap_or (due_by next) was else was
due_after id was _ = was

-- before any of these a message is due when it was made
abbrev pub due : List Entry → Message → ℕ
due h m = fold (λ was e. due_after m.id was e.what) m.created h

abbrev pub settings_for : Policy → Message → Settings
settings_for policy m = settings_of policy.queues m.name

-- a moment is past what the message's age may reach
abbrev pub is_aged : Policy → ℕ → Message → Bool
is_aged policy t m = nat_lt (clamped (m.created + (settings_for policy m).max_age)) t

abbrev pub due_or_expired : ℕ → ℕ → ℕ → Next
due_or_expired max_age created moment = if nat_lt max_age (moment - created) then Expired else Due moment

-- what comes of a failure at a moment: the message is due after its wait, or would then be too old
abbrev pub next_after : Policy → List Entry → ℕ → Message → Next
next_after policy h t m =
    let settings = settings_for policy m in
    due_or_expired settings.max_age m.created (clamped (t + delay_after settings (one_more_failure (failures h m.id))))

-- what a spool has to give back: each pending message with its failures and the moment at which it is due
pub record Spooled : Type 0 where
  pub message : Message
  pub failures : ℕ
  pub due : ℕ

abbrev pub spooled : List Entry → List Spooled
spooled h = map (λ m. record { message = m; failures = failures h m.id; due = due h m }) (pending h)
