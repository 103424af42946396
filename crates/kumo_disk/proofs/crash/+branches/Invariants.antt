use Rattle.std.proofs.Common.{length}
use Rattle.kumo_disk.proofs.crash.+branches.Given as goal

abbrev pub decreases-branches : goal.decreases-branches
decreases-branches l = length l.calls.now
