use Rattle.kumo_disk.proofs.Runs.{ran_write}
use Rattle.spool_log.proofs.calls.set_gate.Goals as goal
use Rattle.spool_log.proofs.Bytes.{flips_written, ran_synced}
use Rattle.spool_log.specs.inside.Steps.{Flips}

pub returns-in_err-write_at-clause-ran : goal.returns-in_err-write_at-clause-ran
returns-in_err-write_at-clause-ran g c = ran_write c.args.area c.args.at 1 (Flips c.args.at) (g.D.Disk.seen c.args.disk.now) (g.D.Disk.seen c.write_at.new.self)
    c.write_at.ensures.time c.write_at.ensures.images c.write_at.ensures.part (flips_written c.args.area c.args.at (g.D.Disk.seen c.args.disk.now) c.requires.at)

pub returns-clause-ran : goal.returns-clause-ran
returns-clause-ran g c = ran_synced c.args.area (Flips c.args.at) (g.D.Disk.seen c.args.disk.now) (g.D.Disk.seen c.write_at.new.self) (g.D.Disk.seen c.sync.new.self)
    (ran_write c.args.area c.args.at 1 (Flips c.args.at) (g.D.Disk.seen c.args.disk.now) (g.D.Disk.seen c.write_at.new.self)
    c.write_at.ensures.time c.write_at.ensures.images c.write_at.ensures.part (flips_written c.args.area c.args.at (g.D.Disk.seen c.args.disk.now) c.requires.at))
    c.sync.ensures.time c.sync.ensures.images c.sync.ensures.same
