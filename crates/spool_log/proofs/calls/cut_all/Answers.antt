use Rattle.kumo_disk.specs.Disk.{Cut}
use Rattle.kumo_disk.proofs.Runs.{ran_cut}
use Rattle.spool_log.proofs.calls.cut_all.Goals as goal
use Rattle.spool_log.proofs.Bytes.{ran_synced}

pub returns-clause-ran : goal.returns-clause-ran
returns-clause-ran g c = ran_synced c.args.area (Cut 0) (g.D.Disk.seen c.args.disk.now) (g.D.Disk.seen c.cut.new.self) (g.D.Disk.seen c.sync.new.self)
    (ran_cut c.args.area 0 (g.D.Disk.seen c.args.disk.now) (g.D.Disk.seen c.cut.new.self) c.cut.ensures.time c.cut.ensures.images c.cut.ensures.part)
    c.sync.ensures.time c.sync.ensures.images c.sync.ensures.same
