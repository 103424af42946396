use Rattle.std.proofs.Common.{List, map, ap, sym, subst, ◌∙◌}
use Rattle.spool_index.specs.declared.place.Place.{Place}
use Rattle.spool_store.specs.Store.{unplaced}
use Rattle.spool_store.specs.Standing.{Stands}
use Rattle.spool_store.proofs.Relaid.{unplaced_laid}
use Rattle.spool_store.proofs.Turning.{since_now, content_since}
use Rattle.spool_store.proofs.rewrite.rewrite.Goals as goal

pub returns-then-is_err-clause-since : goal.returns-then-is_err-clause-since
returns-then-is_err-clause-since g c = since_now c.args.log.now c.args.pending.now (g.D.Disk.seen c.args.disk.now) c.requires

pub returns-in-Ok-clause-content : goal.returns-in-Ok-clause-content
returns-in-Ok-clause-content g c = λ kept has. content_since kept (g.D.Disk.seen c.args.disk.now) (g.D.Disk.seen c.write_anew.new.disk) c.write_anew.ensures.since has

pub returns-in-Err-clause-content : goal.returns-in-Err-clause-content
returns-in-Err-clause-content g c = λ kept has. content_since kept (g.D.Disk.seen c.args.disk.now) (g.D.Disk.seen c.write_anew.new.disk) c.write_anew.ensures.since has

pub returns-in-Ok-clause-stands : goal.returns-in-Ok-clause-stands
returns-in-Ok-clause-stands g c = subst (λ (l : List Place). Stands c.write_anew.new.log l (g.D.Disk.seen c.write_anew.new.disk)) (sym c.relocate.ensures) c.in-Ok.ensures.stands

pub returns-in-Ok-clause-pending : goal.returns-in-Ok-clause-pending
returns-in-Ok-clause-pending g c = ap (λ (l : List Place). map unplaced l) c.relocate.ensures ∙ unplaced_laid 16 c.args.pending.now
