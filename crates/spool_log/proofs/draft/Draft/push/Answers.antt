use Rattle.std.proofs.Common.{◌+◌, ◌∷◌, [], arith, refl}
use Rattle.spool_log.specs.Area.{LogRecord, body_of}
use Rattle.spool_log.specs.declared.draft.Draft.{Draft}
use Rattle.spool_log.proofs.Bytes.{ran_puts, written_then}
use Rattle.spool_log.proofs.Drafts.{push_ran, pushed, draft_within}
use Rattle.spool_log.proofs.draft.Draft.push.Goals as goal

pub returns-in_err-put-clause-ran : goal.returns-in_err-put-clause-ran
returns-in_err-put-clause-ran g c = push_ran c.args.self.now c.requires.draft.0 (g.D.Disk.seen c.args.disk.now) c.requires.draft.1 (g.D.Disk.seen c.put.new.disk) c.put.ensures.ran

pub returns-in_err-put_body-clause-ran : goal.returns-in_err-put_body-clause-ran
returns-in_err-put_body-clause-ran g c = push_ran c.args.self.now c.requires.draft.0 (g.D.Disk.seen c.args.disk.now) c.requires.draft.1 (g.D.Disk.seen c.put_body.new.disk)
    (ran_puts c.args.self.now.area c.args.self.now.end (c.args.self.now.end + 1) (g.D.Disk.seen c.args.disk.now) (g.D.Disk.seen c.put.new.disk) (g.D.Disk.seen c.put_body.new.disk) (omega arith) c.put.ensures.ran c.put_body.ensures.ran)

pub returns-clause-ran : goal.returns-clause-ran
returns-clause-ran g c = push_ran c.args.self.now c.requires.draft.0 (g.D.Disk.seen c.args.disk.now) c.requires.draft.1 (g.D.Disk.seen c.put_body.new.disk)
    (ran_puts c.args.self.now.area c.args.self.now.end (c.args.self.now.end + 1) (g.D.Disk.seen c.args.disk.now) (g.D.Disk.seen c.put.new.disk) (g.D.Disk.seen c.put_body.new.disk) (omega arith) c.put.ensures.ran c.put_body.ensures.ran)

pub returns-clause-draft : goal.returns-clause-draft
returns-clause-draft g c = λ rs is.
    let draft : Draft = c.args.self.now in
    let r : LogRecord = record { kind = c.args.kind; payload = c.args.payload.now } in
    pushed draft rs (g.D.Disk.seen c.args.disk.now) is (g.D.Disk.seen c.put_body.new.disk) r _ refl c.requires.size (omega (arith, c.in_ok-put_body.ensures.bound))
    (written_then draft.area draft.end (draft.end + 1) (1 ∷ []) (body_of c.args.kind c.args.payload.now) (g.D.Disk.seen c.args.disk.now) (g.D.Disk.seen c.put.new.disk) (g.D.Disk.seen c.put_body.new.disk)
    refl (draft_within draft rs (g.D.Disk.seen c.args.disk.now) is) c.in_ok-put.ensures.written c.in_ok-put_body.ensures.written)
    (ran_puts draft.area draft.end (draft.end + 1) (g.D.Disk.seen c.args.disk.now) (g.D.Disk.seen c.put.new.disk) (g.D.Disk.seen c.put_body.new.disk) (omega arith) c.put.ensures.ran c.put_body.ensures.ran)
