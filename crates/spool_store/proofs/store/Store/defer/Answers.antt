use Rattle.std.proofs.Common.{◌∙◌, ◌-◌, List, map, arith, ap, sym, subst}
use Rattle.spool_index.specs.declared.place.Place.{Place}
use Rattle.spool_index.specs.Places.{has, with_delay}
use Rattle.spool_store.specs.Store.{StoreSeen, unplaced}
use Rattle.spool_store.specs.Standing.{Stands}
use Rattle.spool_store.proofs.Waiting.{has-unplaced, delay-unplaced}
use Rattle.spool_store.proofs.Wholes.{deferred_whole, room_left, live_within}
use Rattle.spool_store.specs.Whole.{IsWhole}
use Rattle.spool_store.proofs.store.Store.defer.Goals as goal

pub add_deferred-requires-clause-known : goal.add_deferred-requires-clause-known
add_deferred-requires-clause-known g c = sym (has-unplaced c.args.deferral.id c.self.inside.pending) ∙ ap (λ (s : StoreSeen _). has c.args.deferral.id s.pending) c.self.view_is ∙ c.requires.known

pub invariant_of-self : goal.invariant_of-self
invariant_of-self g c = λ up.
    let some = c.requires.room (sym (ap (λ (s : StoreSeen _). s.down) c.self.view_is) ∙ c.if-self.false) in
    subst (λ (l : List Place). IsWhole c.add_deferred.new.log l (c.self.inside.room - 1) (g.D.Disk.seen c.add_deferred.new.disk)) (sym c.in-Ok.ensures.pending)
    (deferred_whole c.self.inside.log c.add_deferred.new.log c.self.inside.pending c.args.deferral.id c.args.deferral.failures c.args.deferral.due c.self.inside.room (c.self.inside.room - 1) (g.D.Disk.seen c.self.inside.disk) (g.D.Disk.seen c.add_deferred.new.disk)
    (c.self.invariant up) (subst (λ (l : List Place). Stands c.add_deferred.new.log l (g.D.Disk.seen c.add_deferred.new.disk)) c.in-Ok.ensures.pending c.in-Ok.ensures.stands) c.in-Ok.ensures.log
    (omega (arith, some, ap (λ (s : StoreSeen _). s.room) c.self.view_is)))

pub returns-in-Ok-clause-ok : goal.returns-in-Ok-clause-ok
returns-in-Ok-clause-ok g c =
    let some = c.requires.room (sym (ap (λ (s : StoreSeen _). s.down) c.self.view_is) ∙ c.if-self.false) in (
      ap (λ (l : List Place). map unplaced l) c.in-Ok.ensures.pending ∙ delay-unplaced c.args.deferral.id c.args.deferral.failures c.args.deferral.due c.self.inside.pending
          ∙ ap (λ (s : StoreSeen _). with_delay c.args.deferral.id c.args.deferral.failures c.args.deferral.due s.pending) c.self.view_is,
      omega (arith, some, ap (λ (s : StoreSeen _). s.room) c.self.view_is),
      sym (ap (λ (s : StoreSeen _). s.down) c.self.view_is) ∙ c.if-self.false,
      c.if-self.false,
    )

pub returns-in-Ok-clause-has_room : goal.returns-in-Ok-clause-has_room
returns-in-Ok-clause-has_room g c = λ up. room_left c.add_deferred.new.log c.add_deferred.new.pending (c.self.inside.room - 1) (g.D.Disk.seen c.add_deferred.new.disk) (invariant_of-self g c up)

pub returns-in-Ok-clause-within : goal.returns-in-Ok-clause-within
returns-in-Ok-clause-within g c = λ up. live_within c.add_deferred.new.log c.add_deferred.new.pending (c.self.inside.room - 1) (g.D.Disk.seen c.add_deferred.new.disk) (invariant_of-self g c up)
