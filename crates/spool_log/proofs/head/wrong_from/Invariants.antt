use Rattle.std.specs.Prelude.{◌≡◌, ◌+◌, ◌<◌, ◌^◌, length}
use Rattle.spool_log.specs.Head.{first_wrong}
use Rattle.spool_log.proofs.head.wrong_from.Given as goal

abbrev pub invariant-loop-left : goal.invariant-loop-left
invariant-loop-left l = (first_wrong l.left l.at l.here ≡ first_wrong l.wants 1 l.bytes) × (l.at + length l.left < 2 ^ 33)

abbrev pub decreases-loop-left : goal.decreases-loop-left
decreases-loop-left l = length l.left
