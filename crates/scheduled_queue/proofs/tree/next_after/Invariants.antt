use Rattle.std.proofs.Common.{◌≡◌, true}
use Rattle.std.specs.Option.{option_or}
use Rattle.scheduled_queue.specs.Dues.{are_in_order}
use Rattle.scheduled_queue.specs.Kept.{in_order}
use Rattle.scheduled_queue.specs.inside.Parts.{next_after}
use Rattle.scheduled_queue.proofs.tree.next_after.Given as goal

-- what comes next in the rest of the tree, or else what was found last
abbrev pub invariant-loop-rest : goal.invariant-loop-rest
invariant-loop-rest l = (option_or (next_after l.t (in_order l.rest)) l.next ≡ next_after l.t (in_order l.tree)) × (are_in_order (in_order l.rest) ≡ true)
