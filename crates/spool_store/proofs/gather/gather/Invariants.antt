use Rattle.std.proofs.Common.{length}
use Rattle.spool_store.specs.inside.Replay.{IsGathering}
use Rattle.spool_store.proofs.gather.gather.Given as goal

abbrev pub invariant-places : goal.invariant-places
invariant-places g l = IsGathering l.fn.area l.initial.walk l.walk l.kept.items (g.D.Disk.seen l.initial.disk) (g.D.Disk.seen l.disk)

abbrev pub decreases-places : goal.decreases-places
decreases-places g l = length l.walk
