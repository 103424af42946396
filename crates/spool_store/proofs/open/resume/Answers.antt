use Rattle.spool_store.proofs.StillLemmas.{still_then}
use Rattle.spool_store.proofs.OpenLemmas.{breaks_open, undamaged_open, resume_places, resume_answer, resume_stands}
use Rattle.spool_store.proofs.open.resume.Goals as goal

pub gather-requires-clause-stand : goal.gather-requires-clause-stand
gather-requires-clause-stand g c = resume_places c.args.log (g.D.Disk.seen c.args.disk.now) c.requires.area c.requires.in_force c.in-Ok.here.end c.in-Ok.pending c.in-Ok.ensures.replayed (g.D.Disk.seen c.replay.new.disk) c.replay.ensures.still.same

pub returns-in-Ok-gather-clause-answer : goal.returns-in-Ok-gather-clause-answer
returns-in-Ok-gather-clause-answer g c = resume_answer c.args.log (g.D.Disk.seen c.args.disk.now) c.requires.area c.requires.in_force c.in-Ok.here.end c.in-Ok.pending c.in-Ok.ensures.replayed
    c.in-Ok-gather.kept.items (g.D.Disk.seen c.replay.new.disk) c.replay.ensures.still.same c.in-Ok-gather.ensures.kept

pub returns-in-Ok-gather-clause-still : goal.returns-in-Ok-gather-clause-still
returns-in-Ok-gather-clause-still g c = still_then (g.D.Disk.seen c.args.disk.now) (g.D.Disk.seen c.replay.new.disk) (g.D.Disk.seen c.gather.new.disk) c.replay.ensures.still c.gather.ensures.still

pub returns-in-Ok-gather-clause-stands : goal.returns-in-Ok-gather-clause-stands
returns-in-Ok-gather-clause-stands g c = resume_stands c.args.log (g.D.Disk.seen c.args.disk.now) c.requires.area c.requires.in_force c.in-Ok.here.end c.in-Ok.pending c.in-Ok.ensures.replayed
    c.in-Ok.here.area c.in-Ok.here.header (g.D.Disk.seen c.gather.new.disk) c.in-Ok.ensures.log.0 c.in-Ok.ensures.log.1 c.requires.on_disk
    (still_then (g.D.Disk.seen c.args.disk.now) (g.D.Disk.seen c.replay.new.disk) (g.D.Disk.seen c.gather.new.disk) c.replay.ensures.still c.gather.ensures.still) c.in-Ok.ensures.log.2

pub returns-in-Err-gather-clause-fault : goal.returns-in-Err-gather-clause-fault
returns-in-Err-gather-clause-fault g c = undamaged_open c.args.log (g.D.Disk.seen c.args.disk.now) c.requires.area c.requires.in_force c.in-Err-gather.fault (g.D.Disk.seen c.replay.new.disk) c.replay.ensures.still.same c.in-Err-gather.ensures.fault

pub returns-in-Err-gather-clause-still : goal.returns-in-Err-gather-clause-still
returns-in-Err-gather-clause-still g c = still_then (g.D.Disk.seen c.args.disk.now) (g.D.Disk.seen c.replay.new.disk) (g.D.Disk.seen c.gather.new.disk) c.replay.ensures.still c.gather.ensures.still

pub returns-in-Err-clause-fault : goal.returns-in-Err-clause-fault
returns-in-Err-clause-fault g c = breaks_open c.args.log (g.D.Disk.seen c.args.disk.now) c.requires.area c.requires.in_force c.in-Err.fault c.in-Err.ensures.fault
