use Rattle.spool_store.proofs.StillLemmas.{still_ran}
use Rattle.spool_store.proofs.open.header_of.Goals as goal

pub returns-in-Ok-Blank-clause-still : goal.returns-in-Ok-Blank-clause-still
returns-in-Ok-Blank-clause-still g c = still_ran c.args.area (g.D.Disk.seen c.args.disk.now) (g.D.Disk.seen c.open.new.disk) c.open.ensures.same c.open.ensures.ran

pub returns-then-log-eq2-clause-still : goal.returns-then-log-eq2-clause-still
returns-then-log-eq2-clause-still g c = still_ran c.args.area (g.D.Disk.seen c.args.disk.now) (g.D.Disk.seen c.open.new.disk) c.open.ensures.same c.open.ensures.ran

pub returns-in-Err-DiskFault-clause-still : goal.returns-in-Err-DiskFault-clause-still
returns-in-Err-DiskFault-clause-still g c = still_ran c.args.area (g.D.Disk.seen c.args.disk.now) (g.D.Disk.seen c.open.new.disk) c.open.ensures.same c.open.ensures.ran

pub returns-in-Err-Damaged-clause-still : goal.returns-in-Err-Damaged-clause-still
returns-in-Err-Damaged-clause-still g c = still_ran c.args.area (g.D.Disk.seen c.args.disk.now) (g.D.Disk.seen c.open.new.disk) c.open.ensures.same c.open.ensures.ran
