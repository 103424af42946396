use Rattle.std.proofs.Common.{length, ◌-◌, ◌≡◌, ◌≤◌, take, drop}
use Rattle.std.specs.List.{list_any}
use Rattle.queue_name.specs.Address.{is_at}
use Rattle.queue_name.specs.NameText.{is_colon, bad_from, bad_byte}
use Rattle.queue_name.proofs.parse.bad_byte.Given as goal

-- the bytes so far may stand
abbrev pub invariant-loop-i : goal.invariant-loop-i
invariant-loop-i l = record {
  same : bad_byte l.fn.bytes ≡ bad_from (take l.i l.fn.bytes) (drop l.i l.fn.bytes);
  at : l.seen_at ≡ list_any is_at (take l.i l.fn.bytes);
  colon : l.seen_colon ≡ list_any is_colon (take l.i l.fn.bytes);
  within : l.i ≤ length l.fn.bytes;
}

abbrev pub decreases-loop-i : goal.decreases-loop-i
decreases-loop-i l = length l.fn.bytes - l.i
