use Rattle.kumo_disk.specs.Disk.{Cut}
use Rattle.kumo_disk.proofs.Runs.{ran_write, ran_cut, ran_as, ran_then}
use Rattle.spool_log.proofs.calls.empty.Goals as goal
use Rattle.spool_log.proofs.Bytes.{short_cut, short_written, ran_synced}
use Rattle.spool_log.specs.inside.Steps.{StaysShort}

pub returns-in_err-cut-clause-ran : goal.returns-in_err-cut-clause-ran
returns-in_err-cut-clause-ran g c = ran_as c.args.area (Cut 0) StaysShort (g.D.Disk.seen c.args.disk.now) (g.D.Disk.seen c.cut.new.self) (short_cut 0)
    (ran_cut c.args.area 0 (g.D.Disk.seen c.args.disk.now) (g.D.Disk.seen c.cut.new.self) c.cut.ensures.time c.cut.ensures.images c.cut.ensures.part)

pub returns-in_err-write_at-clause-ran : goal.returns-in_err-write_at-clause-ran
returns-in_err-write_at-clause-ran g c = ran_then c.args.area StaysShort StaysShort StaysShort (g.D.Disk.seen c.args.disk.now) (g.D.Disk.seen c.cut.new.self) (g.D.Disk.seen c.write_at.new.self)
    (λ d e short. short) (λ d e f first second is. second (first is))
    (ran_as c.args.area (Cut 0) StaysShort (g.D.Disk.seen c.args.disk.now) (g.D.Disk.seen c.cut.new.self) (short_cut 0)
    (ran_cut c.args.area 0 (g.D.Disk.seen c.args.disk.now) (g.D.Disk.seen c.cut.new.self) c.cut.ensures.time c.cut.ensures.images c.cut.ensures.part))
    (ran_write c.args.area 0 1 StaysShort (g.D.Disk.seen c.cut.new.self) (g.D.Disk.seen c.write_at.new.self) c.write_at.ensures.time c.write_at.ensures.images c.write_at.ensures.part
    (short_written c.args.area (g.D.Disk.seen c.cut.new.self)))

pub returns-clause-ran : goal.returns-clause-ran
returns-clause-ran g c = ran_synced c.args.area StaysShort (g.D.Disk.seen c.args.disk.now) (g.D.Disk.seen c.write_at.new.self) (g.D.Disk.seen c.sync.new.self)
    (ran_then c.args.area StaysShort StaysShort StaysShort (g.D.Disk.seen c.args.disk.now) (g.D.Disk.seen c.cut.new.self) (g.D.Disk.seen c.write_at.new.self)
    (λ d e short. short) (λ d e f first second is. second (first is))
    (ran_as c.args.area (Cut 0) StaysShort (g.D.Disk.seen c.args.disk.now) (g.D.Disk.seen c.cut.new.self) (short_cut 0)
    (ran_cut c.args.area 0 (g.D.Disk.seen c.args.disk.now) (g.D.Disk.seen c.cut.new.self) c.cut.ensures.time c.cut.ensures.images c.cut.ensures.part))
    (ran_write c.args.area 0 1 StaysShort (g.D.Disk.seen c.cut.new.self) (g.D.Disk.seen c.write_at.new.self) c.write_at.ensures.time c.write_at.ensures.images c.write_at.ensures.part
    (short_written c.args.area (g.D.Disk.seen c.cut.new.self))))
    c.sync.ensures.time c.sync.ensures.images c.sync.ensures.same
