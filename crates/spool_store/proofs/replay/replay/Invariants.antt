use Rattle.std.proofs.Common.{◌-◌, ◌^◌}
use Rattle.spool_store.specs.inside.Replay.{IsReplaying}
use Rattle.spool_store.proofs.replay.replay.Given as goal

abbrev pub invariant-records : goal.invariant-records
invariant-records g l = IsReplaying l.fn.log l.here l.at l.pending (g.D.Disk.seen l.initial.disk) (g.D.Disk.seen l.disk)

abbrev pub decreases-records : goal.decreases-records
decreases-records g l = 2 ^ 63 - l.at
