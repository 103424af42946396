use Rattle.std.proofs.Common.{length}
use Rattle.scheduled_queue.specs.Kept.{in_order}
use Rattle.scheduled_queue.proofs.tree.+split.Given as goal

abbrev pub decreases-split : goal.decreases-split
decreases-split l = length (in_order l.tree)
