-- Which messages and paths an order means, and how long it is live (KumoMTA's manual, administrative suspensions and bounces).
use Rattle.std.specs.Prelude.{ℕ, ◌+◌, nat_le, nat_lt, List, Bool, false, ◌&&◌, bytes_eq}
use Rattle.kumo_base.specs.Moment.{clamped}
use Rattle.queue_name.specs.QueueName.{Name}
use Rattle.queue_name.specs.Criteria.{matches}
use Rattle.policy_core.specs.declared.orders.Order.{Order}
use Rattle.policy_core.specs.declared.orders.Order.TheVariants.{Suspend, SuspendReady, Bounce, Resume}

-- the moment at which what began at one moment and lasts so long is over
abbrev pub end_of : ℕ → ℕ → ℕ
end_of start duration = clamped (start + duration)

-- from its start on, and at its end no longer
abbrev pub is_during : ℕ → ℕ → ℕ → Bool
is_during start duration t = nat_le start t && nat_lt t (end_of start duration)

-- how long an order is live
abbrev pub duration_of : Order → ℕ
duration_of (Suspend criteria reason duration) = duration
duration_of (SuspendReady path reason duration) = duration
duration_of (Bounce criteria reason duration) = duration
duration_of (Resume number) = 0

-- it holds back the messages of a queue: a suspension or a bounce that matches the queue's name
abbrev pub holds : Order → Name → Bool
holds (Suspend criteria reason duration) name = matches criteria name
holds (SuspendReady path reason duration) name = false
holds (Bounce criteria reason duration) name = matches criteria name
holds (Resume number) name = false

-- it settles the messages of a queue
abbrev pub bounces : Order → Name → Bool
bounces (Bounce criteria reason duration) name = matches criteria name
bounces _ name = false

-- it halts the path of this text
abbrev pub halts : Order → List ℕ → Bool
halts (SuspendReady path reason duration) text = bytes_eq path text
halts _ text = false
