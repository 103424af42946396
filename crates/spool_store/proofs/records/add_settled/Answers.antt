use Rattle.std.proofs.Common.{◌∙◌, ℕ, List, arith, ap, sym, subst}
use Rattle.spool_format.specs.Settled.{settled_in}
use Rattle.spool_index.specs.declared.place.Place.{Place}
use Rattle.spool_store.specs.Standing.{Stands}
use Rattle.spool_store.proofs.Adding.{settled_since, settled_stands, settled_content}
use Rattle.spool_store.proofs.records.add_settled.Goals as goal

pub returns-in_err-append-clause-since : goal.returns-in_err-append-clause-since
returns-in_err-append-clause-since g c = λ before content.
    settled_since c.args.log.now c.args.pending.now c.args.id c.write_settled-payload.result (g.D.Disk.seen c.args.disk.now) (g.D.Disk.seen c.append.new.disk) c.requires.stands
    (ap (λ (l : List ℕ). settled_in l) c.write_settled-payload.ensures ∙ c.written_id_is_read.ensures c.args.id (omega arith)) c.requires.known before content c.append.ensures.ran

pub returns-clause-since : goal.returns-clause-since
returns-clause-since g c = λ before content.
    settled_since c.args.log.now c.args.pending.now c.args.id c.write_settled-payload.result (g.D.Disk.seen c.args.disk.now) (g.D.Disk.seen c.append.new.disk) c.requires.stands
    (ap (λ (l : List ℕ). settled_in l) c.write_settled-payload.ensures ∙ c.written_id_is_read.ensures c.args.id (omega arith)) c.requires.known before content c.append.ensures.ran

pub returns-clause-content : goal.returns-clause-content
returns-clause-content g c = λ before content.
    settled_content c.args.log.now c.args.pending.now c.args.id c.write_settled-payload.result (g.D.Disk.seen c.args.disk.now) (g.D.Disk.seen c.append.new.disk) c.requires.stands
    (ap (λ (l : List ℕ). settled_in l) c.write_settled-payload.ensures ∙ c.written_id_is_read.ensures c.args.id (omega arith)) c.requires.known
    c.append.new.self c.in_ok-append.ensures.next c.append.ensures.ran c.in_ok-append.ensures.ready c.in_ok-append.ensures.added before content

pub returns-clause-stands : goal.returns-clause-stands
returns-clause-stands g c =
    subst (λ (l : List Place). Stands c.append.new.self l (g.D.Disk.seen c.append.new.disk)) (sym c.settle.ensures)
    (settled_stands c.args.log.now c.args.pending.now c.args.id c.write_settled-payload.result (g.D.Disk.seen c.args.disk.now) (g.D.Disk.seen c.append.new.disk) c.requires.stands
    (ap (λ (l : List ℕ). settled_in l) c.write_settled-payload.ensures ∙ c.written_id_is_read.ensures c.args.id (omega arith)) c.requires.known
    c.append.new.self c.in_ok-append.ensures.next c.append.ensures.ran c.in_ok-append.ensures.ready c.in_ok-append.ensures.added)
