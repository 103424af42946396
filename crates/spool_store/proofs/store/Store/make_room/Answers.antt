use Rattle.std.proofs.Common.{inl, inr, ⊎_elim, arith, ap, length}
use Rattle.std.proofs.lemmas.List.{length-map}
use Rattle.spool_store.specs.Store.{StoreSeen, unplaced}
use Rattle.spool_store.proofs.Wholes.{kept_whole, room_left, live_within}
use Rattle.spool_store.proofs.store.Store.make_room.Goals as goal

pub invariant_of-self : goal.invariant_of-self
invariant_of-self g c = λ up.
    kept_whole c.self.inside.log c.fit.new.log c.self.inside.pending c.fit.new.pending c.self.inside.room c.args.deferrals (g.D.Disk.seen c.self.inside.disk) (g.D.Disk.seen c.fit.new.disk)
    (c.self.invariant up) c.in-Ok.ensures.stands c.in-Ok.ensures.version c.in-Ok.ensures.pending
    (omega (arith, c.requires, length-map c.self.inside.pending unplaced, ap (λ (s : StoreSeen _). length s.pending) c.self.view_is))
    (⊎_elim (λ fit. inl (omega (arith, fit, c.len.ensures.len))) (λ anew. inr anew) c.in-Ok.ensures.fits)

pub returns-in-Ok-clause-has_room : goal.returns-in-Ok-clause-has_room
returns-in-Ok-clause-has_room g c = λ up. room_left c.fit.new.log c.fit.new.pending c.args.deferrals (g.D.Disk.seen c.fit.new.disk) (invariant_of-self g c up)

pub returns-in-Ok-clause-within : goal.returns-in-Ok-clause-within
returns-in-Ok-clause-within g c = λ up. live_within c.fit.new.log c.fit.new.pending c.args.deferrals (g.D.Disk.seen c.fit.new.disk) (invariant_of-self g c up)
