use Rattle.std.proofs.Common.{arith}
use Rattle.spool_log.specs.Area.{LogRecord}
use Rattle.spool_log.proofs.Drafts.{append_first, append_ran, append_added, append_form}
use Rattle.spool_log.proofs.log.Log.append.Goals as goal

pub returns-in_err-stage-clause-ran : goal.returns-in_err-stage-clause-ran
returns-in_err-stage-clause-ran g c = append_first c.args.self.now.header c.args.self.now.area c.args.self.now.end (record { kind = c.args.kind; payload = c.args.payload.now }) c.requires.size
    (g.D.Disk.seen c.args.disk.now) (g.D.Disk.seen c.stage.new.disk) c.stage.ensures.ran

pub returns-in_err-set_gate-clause-ran : goal.returns-in_err-set_gate-clause-ran
returns-in_err-set_gate-clause-ran g c = append_ran c.args.self.now.header c.args.self.now.area c.args.self.now.end (record { kind = c.args.kind; payload = c.args.payload.now }) c.requires.size
    (g.D.Disk.seen c.args.disk.now) (g.D.Disk.seen c.stage.new.disk) (g.D.Disk.seen c.set_gate.new.disk)
    c.requires.ready.durable c.in_ok-stage.ensures.written c.in_ok-stage.ensures.durable c.stage.ensures.ran c.set_gate.ensures.ran

pub returns-clause-ran : goal.returns-clause-ran
returns-clause-ran g c = append_ran c.args.self.now.header c.args.self.now.area c.args.self.now.end (record { kind = c.args.kind; payload = c.args.payload.now }) c.requires.size
    (g.D.Disk.seen c.args.disk.now) (g.D.Disk.seen c.stage.new.disk) (g.D.Disk.seen c.set_gate.new.disk)
    c.requires.ready.durable c.in_ok-stage.ensures.written c.in_ok-stage.ensures.durable c.stage.ensures.ran c.set_gate.ensures.ran

pub returns-clause-added : goal.returns-clause-added
returns-clause-added g c = append_added c.args.self.now.header c.args.self.now.area c.args.self.now.end (record { kind = c.args.kind; payload = c.args.payload.now }) c.requires.size
    (g.D.Disk.seen c.args.disk.now) (g.D.Disk.seen c.stage.new.disk) (g.D.Disk.seen c.set_gate.new.disk) c.in_ok-stage.ensures.written c.in_ok-set_gate.ensures.written

pub returns-clause-ready : goal.returns-clause-ready
returns-clause-ready g c =
    let r : LogRecord = record { kind = c.args.kind; payload = c.args.payload.now } in
    record {
      area = c.requires.ready.area;
      low = omega (arith, c.in_ok-stage.ensures.bound);
      form = append_form c.args.self.now.header c.args.self.now.area c.args.self.now.end r c.requires.size (g.D.Disk.seen c.args.disk.now) (g.D.Disk.seen c.stage.new.disk) (g.D.Disk.seen c.set_gate.new.disk)
          c.requires.ready.form
          (append_added c.args.self.now.header c.args.self.now.area c.args.self.now.end r c.requires.size (g.D.Disk.seen c.args.disk.now) (g.D.Disk.seen c.stage.new.disk) (g.D.Disk.seen c.set_gate.new.disk)
          c.in_ok-stage.ensures.written c.in_ok-set_gate.ensures.written);
      durable = c.in_ok-set_gate.ensures.durable;
    }
