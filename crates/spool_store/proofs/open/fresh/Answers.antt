use Rattle.spool_store.proofs.StillLemmas.{durable_on_disk}
use Rattle.spool_store.proofs.OpenLemmas.{fresh_answer, fresh_since, fresh_content, fresh_stands}
use Rattle.spool_store.proofs.open.fresh.Goals as goal

pub begin-requires : goal.begin-requires
begin-requires g c = durable_on_disk 0 (g.D.Disk.seen c.args.disk.now) c.requires.on_disk

pub returns-in-Ok-clause-answer : goal.returns-in-Ok-clause-answer
returns-in-Ok-clause-answer g c = fresh_answer (g.D.Disk.seen c.args.disk.now) (g.D.Disk.seen c.begin.new.disk) c.requires.on_disk c.requires.blank _ c.new-in-Ok.ensures.items

pub returns-in-Ok-clause-since : goal.returns-in-Ok-clause-since
returns-in-Ok-clause-since g c = fresh_since (g.D.Disk.seen c.args.disk.now) (g.D.Disk.seen c.begin.new.disk) c.requires.on_disk c.requires.blank c.begin.ensures.ran

pub returns-in-Err-clause-since : goal.returns-in-Err-clause-since
returns-in-Err-clause-since g c = fresh_since (g.D.Disk.seen c.args.disk.now) (g.D.Disk.seen c.begin.new.disk) c.requires.on_disk c.requires.blank c.begin.ensures.ran

pub returns-in-Ok-clause-stands : goal.returns-in-Ok-clause-stands
returns-in-Ok-clause-stands g c = fresh_stands (g.D.Disk.seen c.args.disk.now) (g.D.Disk.seen c.begin.new.disk) c.requires.on_disk c.requires.blank c.begin.ensures.ran c.in-Ok.ensures.form
    c.in-Ok.log _ c.in-Ok.ensures.log c.new.ensures c.in-Ok.ensures.ready

pub returns-in-Ok-clause-content : goal.returns-in-Ok-clause-content
returns-in-Ok-clause-content g c = fresh_content (g.D.Disk.seen c.args.disk.now) (g.D.Disk.seen c.begin.new.disk) c.requires.on_disk c.requires.blank c.begin.ensures.ran c.in-Ok.ensures.form _ c.new-in-Ok.ensures.items
