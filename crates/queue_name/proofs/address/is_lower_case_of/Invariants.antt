use Rattle.std.proofs.Common.{length, ◌-◌, ◌≡◌, ◌≤◌, take, map}
use Rattle.std.specs.Char.{to_ascii_lowercase}
use Rattle.queue_name.proofs.address.is_lower_case_of.Given as goal

-- the bytes so far are the same
abbrev pub invariant-loop-i : goal.invariant-loop-i
invariant-loop-i l = record {
  same : take l.i l.lower ≡ map to_ascii_lowercase (take l.i l.bytes);
  long : length l.lower ≡ length l.bytes;
  within : l.i ≤ length l.lower;
}

abbrev pub decreases-loop-i : goal.decreases-loop-i
decreases-loop-i l = length l.lower - l.i
