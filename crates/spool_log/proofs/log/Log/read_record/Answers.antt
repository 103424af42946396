use Rattle.std.proofs.Common.{arith, refl}
use Rattle.kumo_disk.specs.Disk.{Same}
use Rattle.kumo_disk.proofs.Runs.{ran_same}
use Rattle.spool_log.proofs.Bytes.{ran_after}
use Rattle.spool_log.proofs.Records.{damaged_at}
use Rattle.spool_log.proofs.log.Log.read_record.Goals as goal

pub returns-in_default-read-clause-ran : goal.returns-in_default-read-clause-ran
returns-in_default-read-clause-ran g c =
    let area = c.args.self.now.area in
    ran_after area Same (g.D.Disk.seen c.args.disk.now) (g.D.Disk.seen c.length.new.self) (g.D.Disk.seen c.read.new.self) (λ d. refl)
    (ran_same area (g.D.Disk.seen c.args.disk.now) (g.D.Disk.seen c.length.new.self) c.length.ensures.time c.length.ensures.images c.length.ensures.same)
    (ran_same area (g.D.Disk.seen c.length.new.self) (g.D.Disk.seen c.read.new.self) c.read.ensures.time c.read.ensures.images c.read.ensures.same)

pub returns-then-n-eq0-clause-ran : goal.returns-then-n-eq0-clause-ran
returns-then-n-eq0-clause-ran g c =
    let area = c.args.self.now.area in
    ran_after area Same (g.D.Disk.seen c.args.disk.now) (g.D.Disk.seen c.length.new.self) (g.D.Disk.seen c.read.new.self) (λ d. refl)
    (ran_same area (g.D.Disk.seen c.args.disk.now) (g.D.Disk.seen c.length.new.self) c.length.ensures.time c.length.ensures.images c.length.ensures.same)
    (ran_same area (g.D.Disk.seen c.length.new.self) (g.D.Disk.seen c.read.new.self) c.read.ensures.time c.read.ensures.images c.read.ensures.same)

pub returns-in-None-clause-ran : goal.returns-in-None-clause-ran
returns-in-None-clause-ran g c =
    let area = c.args.self.now.area in
    ran_after area Same (g.D.Disk.seen c.args.disk.now) (g.D.Disk.seen c.length.new.self) (g.D.Disk.seen c.read.new.self) (λ d. refl)
    (ran_same area (g.D.Disk.seen c.args.disk.now) (g.D.Disk.seen c.length.new.self) c.length.ensures.time c.length.ensures.images c.length.ensures.same)
    (ran_same area (g.D.Disk.seen c.length.new.self) (g.D.Disk.seen c.read.new.self) c.read.ensures.time c.read.ensures.images c.read.ensures.same)

pub returns-in-None-clause-fault : goal.returns-in-None-clause-fault
returns-in-None-clause-fault g c =
    damaged_at c.args.self.now.area c.args.at c.in-Ok-read.n c.in-Ok.length _ (g.D.Disk.seen c.args.disk.now) (g.D.Disk.seen c.length.new.self) c.length.ensures.same
    c.in-Ok-read.ensures.bytes c.in-Ok.ensures.value (omega (arith, c.if-n-eq0.false)) (omega (arith, c.if-head-ne1.false)) c.in-None.ensures.judged

pub returns-in_err-read_payload-clause-ran : goal.returns-in_err-read_payload-clause-ran
returns-in_err-read_payload-clause-ran g c =
    let area = c.args.self.now.area in
    ran_after area Same (g.D.Disk.seen c.args.disk.now) (g.D.Disk.seen c.read.new.self) (g.D.Disk.seen c.read_payload.new.disk) (λ d. refl)
    (ran_after area Same (g.D.Disk.seen c.args.disk.now) (g.D.Disk.seen c.length.new.self) (g.D.Disk.seen c.read.new.self) (λ d. refl)
    (ran_same area (g.D.Disk.seen c.args.disk.now) (g.D.Disk.seen c.length.new.self) c.length.ensures.time c.length.ensures.images c.length.ensures.same)
    (ran_same area (g.D.Disk.seen c.length.new.self) (g.D.Disk.seen c.read.new.self) c.read.ensures.time c.read.ensures.images c.read.ensures.same))
    c.read_payload.ensures.ran

pub returns-clause-ran : goal.returns-clause-ran
returns-clause-ran g c =
    let area = c.args.self.now.area in
    ran_after area Same (g.D.Disk.seen c.args.disk.now) (g.D.Disk.seen c.read.new.self) (g.D.Disk.seen c.read_payload.new.disk) (λ d. refl)
    (ran_after area Same (g.D.Disk.seen c.args.disk.now) (g.D.Disk.seen c.length.new.self) (g.D.Disk.seen c.read.new.self) (λ d. refl)
    (ran_same area (g.D.Disk.seen c.args.disk.now) (g.D.Disk.seen c.length.new.self) c.length.ensures.time c.length.ensures.images c.length.ensures.same)
    (ran_same area (g.D.Disk.seen c.length.new.self) (g.D.Disk.seen c.read.new.self) c.read.ensures.time c.read.ensures.images c.read.ensures.same))
    c.read_payload.ensures.ran
