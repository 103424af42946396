use Rattle.std.proofs.Common.{◌≡◌, length}
use Rattle.spool_index.specs.Slots.{kept}
use Rattle.spool_index.proofs.walk.Walk.next.Given as goal

abbrev pub invariant-loop-slot : goal.invariant-loop-slot
invariant-loop-slot l = kept l.self-inside.slots.now ≡ kept l.initial.self-inside.slots.now

abbrev pub decreases-loop-slot : goal.decreases-loop-slot
decreases-loop-slot l = length l.self-inside.slots.now
