use Rattle.std.proofs.Common.{length, ◌-◌, ◌≡◌, ◌≤◌}
use Rattle.kumo_disk.proofs.file_disk.fill.Given as goal

-- the buffer keeps its length, and is read no further than that
abbrev pub invariant-loop-count : goal.invariant-loop-count
invariant-loop-count g l = (l.count ≤ length l.buffer) × (length l.buffer ≡ length l.initial.buffer)

abbrev pub decreases-loop-count : goal.decreases-loop-count
decreases-loop-count g l = length l.initial.buffer - l.count
