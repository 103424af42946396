use Rattle.std.proofs.Common.{arith}
use Rattle.spool_store.proofs.Keeping.{stands_then}
use Rattle.spool_store.proofs.Wholes.{anew_whole, too_large}
use Rattle.spool_store.proofs.opening.open_synced.Goals as goal

pub returns-then-live_size-gt-AREA_LIMIT-clause-fault : goal.returns-then-live_size-gt-AREA_LIMIT-clause-fault
returns-then-live_size-gt-AREA_LIMIT-clause-fault g c = too_large c.in-Ok.opened.pending c.in-Ok.opened.kept.items c.len.result c.live_size.result (g.D.Disk.seen c.args.disk.now)
    c.in-Ok.ensures.answer c.in-Ok.ensures.pending c.len.ensures.len c.live_size.ensures (omega (arith, c.if-live_size-gt-AREA_LIMIT.true))

pub returns-in-Ok-rewrite-clause-since : goal.returns-in-Ok-rewrite-clause-since
returns-in-Ok-rewrite-clause-since g c = stands_then (g.D.Disk.seen c.args.disk.now) (g.D.Disk.seen c.reopen.new.disk) (g.D.Disk.seen c.rewrite.new.disk) c.reopen.ensures.since c.rewrite.ensures.since

pub returns-in-Ok-rewrite-clause-whole : goal.returns-in-Ok-rewrite-clause-whole
returns-in-Ok-rewrite-clause-whole g c = anew_whole c.rewrite.new.log c.in-Ok.opened.pending c.rewrite.new.pending (g.D.Disk.seen c.rewrite.new.disk) (omega (arith, c.live_size.ensures, c.if-live_size-gt-AREA_LIMIT.false))
    c.in-Ok-rewrite.ensures.stands c.in-Ok-rewrite.ensures.log.0 c.in-Ok-rewrite.ensures.pending c.in-Ok-rewrite.ensures.log.1

pub returns-in-Err-DiskFault-clause-since : goal.returns-in-Err-DiskFault-clause-since
returns-in-Err-DiskFault-clause-since g c = stands_then (g.D.Disk.seen c.args.disk.now) (g.D.Disk.seen c.reopen.new.disk) (g.D.Disk.seen c.rewrite.new.disk) c.reopen.ensures.since c.rewrite.ensures.since
