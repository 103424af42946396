use Rattle.spool_log.proofs.calls.put_gate.Goals as goal
use Rattle.spool_log.proofs.Bytes.{ran_put, ran_synced}
use Rattle.spool_log.specs.inside.Steps.{KeepsFront}

pub returns-in_err-write_at-clause-ran : goal.returns-in_err-write_at-clause-ran
returns-in_err-write_at-clause-ran g c = ran_put c.args.area c.args.at 1 (g.D.Disk.seen c.args.disk.now) (g.D.Disk.seen c.write_at.new.self)
    c.write_at.ensures.time c.write_at.ensures.images c.write_at.ensures.part

pub returns-clause-ran : goal.returns-clause-ran
returns-clause-ran g c = ran_synced c.args.area (KeepsFront c.args.at) (g.D.Disk.seen c.args.disk.now) (g.D.Disk.seen c.write_at.new.self) (g.D.Disk.seen c.sync.new.self)
    (ran_put c.args.area c.args.at 1 (g.D.Disk.seen c.args.disk.now) (g.D.Disk.seen c.write_at.new.self) c.write_at.ensures.time c.write_at.ensures.images c.write_at.ensures.part)
    c.sync.ensures.time c.sync.ensures.images c.sync.ensures.same
