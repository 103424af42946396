use Rattle.std.proofs.Common.{refl, sym, subst, IfSome, List}
use Rattle.kumo_disk.specs.Disk.{area_of}
use Rattle.spool_index.specs.declared.place.Place.{Place}
use Rattle.spool_store.specs.inside.Replay.{AllStandThere}
use Rattle.spool_store.proofs.StillLemmas.{still_then}
use Rattle.spool_store.proofs.GatherLemmas.{gathering_begins, gathering_stands, gathering_next}
use Rattle.spool_store.proofs.gather.gather.Goals as goal

pub places-init : goal.places-init
places-init g c = gathering_begins c.args.area c.walk-walk.result c.walk-walk.result c.new-kept.result.items (g.D.Disk.seen c.args.disk.now) refl c.new-kept.ensures.items

pub read_kept-requires-clause-stands : goal.read_kept-requires-clause-stands
read_kept-requires-clause-stands g c = gathering_stands c.args.area c.walk-walk.result c.places.walk c.next.new.self c.in-Some.place c.places.kept.items (g.D.Disk.seen c.args.disk.now) (g.D.Disk.seen c.places.disk)
    c.places.invariant c.in-Some.ensures.all
    (subst (λ (l : List Place). IfSome (g.D.Disk.seen c.args.disk.now).told (λ read. AllStandThere (area_of c.args.area read) l)) (sym c.walk-walk.ensures) c.requires.stand)

pub places-preserved : goal.places-preserved
places-preserved g c = gathering_next c.args.area c.walk-walk.result c.places.walk c.next.new.self c.in-Some.place c.places.kept.items (g.D.Disk.seen c.args.disk.now) (g.D.Disk.seen c.places.disk)
    c.places.invariant c.in-Some.ensures.all c.in-Ok.message c.push.new.self.items (g.D.Disk.seen c.read_kept.new.disk) c.in-Ok-push.ensures.items c.read_kept.ensures.cause.later c.read_kept.ensures.still
    c.in-Ok.ensures.waiting c.in-Ok.ensures.kept

pub returns-in-Err-push-clause-still : goal.returns-in-Err-push-clause-still
returns-in-Err-push-clause-still g c = still_then (g.D.Disk.seen c.args.disk.now) (g.D.Disk.seen c.places.disk) (g.D.Disk.seen c.read_kept.new.disk) c.places.invariant.still c.read_kept.ensures.still
