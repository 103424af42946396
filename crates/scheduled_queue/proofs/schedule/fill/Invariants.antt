use Rattle.std.proofs.Common.{◌≡◌, ◌≤◌, ◌-◌, max, vec_len, vec_capacity}
use Rattle.scheduled_queue.proofs.schedule.fill.Given as goal

abbrev pub invariant-loop-alloc : goal.invariant-loop-alloc
invariant-loop-alloc l =
    (vec_capacity l.spares ≡ vec_capacity l.initial.spares) × (vec_len l.initial.spares ≤ vec_len l.spares)
    × (vec_len l.spares ≤ max (vec_len l.initial.spares) l.count)

abbrev pub decreases-loop-alloc : goal.decreases-loop-alloc
decreases-loop-alloc l = l.count - vec_len l.spares
