use Rattle.std.proofs.Common.{◌≡◌, slice_get}
use Rattle.std.specs.Option.{option_or}
use Rattle.scheduled_queue.specs.Kept.{in_order}
use Rattle.scheduled_queue.proofs.tree.first.Given as goal

-- what stands first in the rest of the tree, or else what was found last
abbrev pub invariant-loop-rest : goal.invariant-loop-rest
invariant-loop-rest l = option_or (slice_get (in_order l.rest) 0) l.first ≡ slice_get (in_order l.tree) 0
