use Rattle.std.proofs.Common.{◌≡◌, length}
use Rattle.indexmap.specs.IndexMap.{index_map_len}
use Rattle.spool_index.specs.Slots.{kept, Knows, Numbers}
use Rattle.spool_index.proofs.slots.number.Given as goal

abbrev pub invariant-loop-number : goal.invariant-loop-number
invariant-loop-number l =
    Knows l.index l.slots × Numbers l.index l.slots l.number × (index_map_len l.index ≡ length (kept l.slots))
