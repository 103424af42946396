use Rattle.std.proofs.Common.{◌≡◌, ◌+◌, ◌++◌, take, drop, sum_by}
use Rattle.spool_index.specs.Places.{compacted_cost, compacted_size}
use Rattle.spool_index.specs.Slots.{kept, slots_laid_out}
use Rattle.spool_index.proofs.slots.lay_out.Given as goal

abbrev pub invariant-loop-number : goal.invariant-loop-number
invariant-loop-number l =
    (slots_laid_out 16 l.initial.slots ≡ take l.number l.slots ++ slots_laid_out l.offset (drop l.number l.slots))
    × (l.offset + 1 + sum_by compacted_cost (kept (drop l.number l.slots)) ≡ compacted_size (kept l.initial.slots))
