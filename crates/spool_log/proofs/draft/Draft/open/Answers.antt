use Rattle.std.proofs.Common.{List}
use Rattle.kumo_disk.proofs.Known.{told_after}
use Rattle.spool_log.specs.Area.{LogRecord, Form, IsForm}
use Rattle.spool_log.specs.declared.draft.Draft.{Draft}
use Rattle.spool_log.proofs.Drafts.{open_first, open_ran, open_form}
use Rattle.spool_log.proofs.draft.Draft.open.Goals as goal

pub returns-in_err-put_gate-clause-ran : goal.returns-in_err-put_gate-clause-ran
returns-in_err-put_gate-clause-ran g c = λ rs is. open_first c.args.self rs (g.D.Disk.seen c.args.disk.now) is (g.D.Disk.seen c.put_gate.new.disk) c.put_gate.ensures.ran

pub returns-in_err-set_gate-clause-ran : goal.returns-in_err-set_gate-clause-ran
returns-in_err-set_gate-clause-ran g c = λ rs is. open_ran c.args.self rs (g.D.Disk.seen c.args.disk.now) is (g.D.Disk.seen c.put_gate.new.disk) c.in_ok-put_gate.ensures.written (g.D.Disk.seen c.set_gate.new.disk)
    c.in_ok-put_gate.ensures.durable c.put_gate.ensures.ran c.set_gate.ensures.ran

pub returns-clause-ran : goal.returns-clause-ran
returns-clause-ran g c = λ rs is. open_ran c.args.self rs (g.D.Disk.seen c.args.disk.now) is (g.D.Disk.seen c.put_gate.new.disk) c.in_ok-put_gate.ensures.written (g.D.Disk.seen c.set_gate.new.disk)
    c.in_ok-put_gate.ensures.durable c.put_gate.ensures.ran c.set_gate.ensures.ran

pub returns-clause-form : goal.returns-clause-form
returns-clause-form g c = λ rs is. open_form c.args.self rs (g.D.Disk.seen c.args.disk.now) is (g.D.Disk.seen c.put_gate.new.disk) c.in_ok-put_gate.ensures.written (g.D.Disk.seen c.set_gate.new.disk) c.in_ok-set_gate.ensures.written

pub returns-clause-ready : goal.returns-clause-ready
returns-clause-ready g c =
    let draft : Draft = c.args.self in
    let rs : List LogRecord = c.requires.draft.0 in
    record {
      area = c.requires.draft.1.area;
      low = c.in_ok-put_gate.ensures.bound;
      form = told_after draft.area (λ old new. Form draft.header rs draft.end new) (IsForm draft.header draft.end) (g.D.Disk.seen c.args.disk.now) (g.D.Disk.seen c.set_gate.new.disk) (λ read told l form. (rs, form))
          (open_form draft rs (g.D.Disk.seen c.args.disk.now) c.requires.draft.1 (g.D.Disk.seen c.put_gate.new.disk) c.in_ok-put_gate.ensures.written (g.D.Disk.seen c.set_gate.new.disk) c.in_ok-set_gate.ensures.written);
      durable = c.in_ok-set_gate.ensures.durable;
    }
