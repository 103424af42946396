use Rattle.std.proofs.Common.{subst, Bool}
use Rattle.spool_store.specs.Content.{after}
use Rattle.spool_store.specs.inside.Replay.{Takes}
use Rattle.spool_store.proofs.StillLemmas.{still_ran}
use Rattle.spool_store.proofs.ReplayLemmas.{step_next, step_bad, step_damaged, step_end}
use Rattle.spool_store.proofs.replay.step.Goals as goal

pub returns-in-Ok-true-clause-next : goal.returns-in-Ok-true-clause-next
returns-in-Ok-true-clause-next g c = step_next c.args.log.now.header c.args.log.now.area c.args.at c.args.pending.now (g.D.Disk.seen c.args.disk.now).told c.requires.seen
    c.take_in.new.pending c.in-Ok-Record.kind c.in-Ok-Record.next c.read_record.new.into.items c.deref.result.now c.in-Ok-Record.field-0 c.in-Ok-Record.field-0-is c.deref.ensures.value c.in-Ok-Record.ensures.step
    (subst (λ (t : Bool). Takes t (λ items. after c.args.log.now.header.version c.args.at items (record { kind = c.in-Ok-Record.kind; payload = c.deref.result.now })) c.args.pending.now c.take_in.new.pending) c.in-Ok-true.field-0-test c.in-Ok-true.ensures)

pub returns-in-Ok-false-clause-fault : goal.returns-in-Ok-false-clause-fault
returns-in-Ok-false-clause-fault g c = step_bad c.args.log.now.header c.args.log.now.area c.args.at c.args.pending.now (g.D.Disk.seen c.args.disk.now).told c.requires.seen
    c.take_in.new.pending c.in-Ok-Record.kind c.in-Ok-Record.next c.read_record.new.into.items c.deref.result.now c.in-Ok-Record.field-0 c.in-Ok-Record.field-0-is c.deref.ensures.value c.in-Ok-Record.ensures.step
    (subst (λ (t : Bool). Takes t (λ items. after c.args.log.now.header.version c.args.at items (record { kind = c.in-Ok-Record.kind; payload = c.deref.result.now })) c.args.pending.now c.take_in.new.pending) c.in-Ok-false.field-0-test c.in-Ok-false.ensures)

pub returns-in-Ok-End-clause-end : goal.returns-in-Ok-End-clause-end
returns-in-Ok-End-clause-end g c = step_end c.args.log.now.header c.args.log.now.area c.args.at c.args.pending.now (g.D.Disk.seen c.args.disk.now).told c.requires.seen
    c.read_record.new.into.items c.in-Ok-End.field-0 c.in-Ok-End.field-0-is c.in-Ok-End.ensures.step

pub returns-in-Err-Damaged-clause-fault : goal.returns-in-Err-Damaged-clause-fault
returns-in-Err-Damaged-clause-fault g c = step_damaged c.args.log.now.header c.args.log.now.area c.args.at c.args.pending.now (g.D.Disk.seen c.args.disk.now).told c.requires.seen
    c.in-Err-Damaged.field-0-0 c.in-Err-Damaged.field-0 c.in-Err-Damaged.field-0-is c.in-Err-Damaged.ensures.fault

pub returns-in-Ok-true-clause-still : goal.returns-in-Ok-true-clause-still
returns-in-Ok-true-clause-still g c = still_ran c.args.log.now.area (g.D.Disk.seen c.args.disk.now) (g.D.Disk.seen c.read_record.new.disk) c.read_record.ensures.same c.read_record.ensures.ran

pub returns-in-Ok-false-clause-still : goal.returns-in-Ok-false-clause-still
returns-in-Ok-false-clause-still g c = still_ran c.args.log.now.area (g.D.Disk.seen c.args.disk.now) (g.D.Disk.seen c.read_record.new.disk) c.read_record.ensures.same c.read_record.ensures.ran

pub returns-in-Err-clause-still : goal.returns-in-Err-clause-still
returns-in-Err-clause-still g c = still_ran c.args.log.now.area (g.D.Disk.seen c.args.disk.now) (g.D.Disk.seen c.read_record.new.disk) c.read_record.ensures.same c.read_record.ensures.ran

pub returns-in-Ok-End-clause-still : goal.returns-in-Ok-End-clause-still
returns-in-Ok-End-clause-still g c = still_ran c.args.log.now.area (g.D.Disk.seen c.args.disk.now) (g.D.Disk.seen c.read_record.new.disk) c.read_record.ensures.same c.read_record.ensures.ran

pub returns-in-Err-DiskFault-clause-still : goal.returns-in-Err-DiskFault-clause-still
returns-in-Err-DiskFault-clause-still g c = still_ran c.args.log.now.area (g.D.Disk.seen c.args.disk.now) (g.D.Disk.seen c.read_record.new.disk) c.read_record.ensures.same c.read_record.ensures.ran

pub returns-in-Err-Damaged-clause-still : goal.returns-in-Err-Damaged-clause-still
returns-in-Err-Damaged-clause-still g c = still_ran c.args.log.now.area (g.D.Disk.seen c.args.disk.now) (g.D.Disk.seen c.read_record.new.disk) c.read_record.ensures.same c.read_record.ensures.ran

pub returns-in-Err-Memory-clause-still : goal.returns-in-Err-Memory-clause-still
returns-in-Err-Memory-clause-still g c = still_ran c.args.log.now.area (g.D.Disk.seen c.args.disk.now) (g.D.Disk.seen c.read_record.new.disk) c.read_record.ensures.same c.read_record.ensures.ran
