use Rattle.std.proofs.Common.{◌≡◌, ◌≤◌, ◌-◌, length, take}
use Rattle.kumo_outside.specs.Content.{told_with}
use Rattle.kumo_outside.proofs.sink.put_all.Given as goal

-- so far the bytes before `at` were taken
abbrev pub invariant-loop-at : goal.invariant-loop-at
invariant-loop-at g l = record {
  within : l.at ≤ length l.bytes;
  taken : (g.O.Sink.seen l.out).told ≡ told_with (g.O.Sink.seen l.fn.out).told (take l.at l.bytes);
  later : (g.O.Sink.seen l.fn.out).faults ≤ (g.O.Sink.seen l.out).faults;
}

abbrev pub decreases-loop-at : goal.decreases-loop-at
decreases-loop-at g l = length l.bytes - l.at
