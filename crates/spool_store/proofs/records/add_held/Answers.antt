use Rattle.std.proofs.Common.{◌∙◌, List, arith, ap, sym, subst, length}
use Rattle.spool_index.specs.declared.place.Place.{Place}
use Rattle.spool_store.specs.Standing.{Stands}
use Rattle.spool_store.proofs.Lists.{held_small}
use Rattle.spool_store.proofs.Adding.{held_since, held_stands, held_content}
use Rattle.spool_store.proofs.records.add_held.Goals as goal

pub overflow_cast-place : goal.overflow_cast-place
overflow_cast-place g c = omega (arith, c.len.ensures, ap length c.in-Ok.ensures.ok, held_small c.args.message.now c.requires.proper)

pub append-requires-clause-size : goal.append-requires-clause-size
append-requires-clause-size g c = omega (arith, ap length c.deref.ensures.value, ap length c.in-Ok.ensures.ok, held_small c.args.message.now c.requires.proper)

pub returns-in-Ok-append-clause-since : goal.returns-in-Ok-append-clause-since
returns-in-Ok-append-clause-since g c = λ before content.
    held_since c.args.log.now c.args.pending.now c.args.message.now c.deref.result.now (g.D.Disk.seen c.args.disk.now) (g.D.Disk.seen c.append.new.disk) c.requires.stands
    (c.deref.ensures.value ∙ c.in-Ok.ensures.ok) (c.written_message_is_read.ensures c.requires.proper) c.requires.fresh before content c.append.ensures.ran

pub returns-in-Err-append-clause-since : goal.returns-in-Err-append-clause-since
returns-in-Err-append-clause-since g c = λ before content.
    held_since c.args.log.now c.args.pending.now c.args.message.now c.deref.result.now (g.D.Disk.seen c.args.disk.now) (g.D.Disk.seen c.append.new.disk) c.requires.stands
    (c.deref.ensures.value ∙ c.in-Ok.ensures.ok) (c.written_message_is_read.ensures c.requires.proper) c.requires.fresh before content c.append.ensures.ran

pub returns-in-Ok-append-clause-content : goal.returns-in-Ok-append-clause-content
returns-in-Ok-append-clause-content g c = λ before content.
    held_content c.args.log.now c.args.pending.now c.args.message.now c.deref.result.now (g.D.Disk.seen c.args.disk.now) (g.D.Disk.seen c.append.new.disk) c.requires.stands
    (c.deref.ensures.value ∙ c.in-Ok.ensures.ok) (c.written_message_is_read.ensures c.requires.proper) c.requires.fresh
    c.append.new.self c.len.result c.in-Ok-append.ensures.next (omega (arith, c.len.ensures, ap length c.in-Ok.ensures.ok)) c.append.ensures.ran c.in-Ok-append.ensures.ready c.in-Ok-append.ensures.added before content

pub returns-in-Ok-append-clause-stands : goal.returns-in-Ok-append-clause-stands
returns-in-Ok-append-clause-stands g c =
    subst (λ (l : List Place). Stands c.append.new.self l (g.D.Disk.seen c.append.new.disk)) (sym c.in-Ok-push.ensures.ok)
    (held_stands c.args.log.now c.args.pending.now c.args.message.now c.deref.result.now (g.D.Disk.seen c.args.disk.now) (g.D.Disk.seen c.append.new.disk) c.requires.stands
    (c.deref.ensures.value ∙ c.in-Ok.ensures.ok) (c.written_message_is_read.ensures c.requires.proper) c.requires.fresh
    c.append.new.self c.len.result c.in-Ok-append.ensures.next (omega (arith, c.len.ensures, ap length c.in-Ok.ensures.ok)) c.append.ensures.ran c.in-Ok-append.ensures.ready c.in-Ok-append.ensures.added)
