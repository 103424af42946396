use Rattle.std.proofs.Common.{◌∙◌, List, map, arith, ap, sym, subst, length}
use Rattle.std.proofs.lemmas.List.{length-map}
use Rattle.spool_index.specs.declared.place.Place.{Place}
use Rattle.spool_index.specs.Places.{has, without}
use Rattle.spool_store.specs.Store.{StoreSeen, unplaced}
use Rattle.spool_store.specs.Standing.{Stands}
use Rattle.spool_store.proofs.Waiting.{has-unplaced, without-unplaced}
use Rattle.spool_store.proofs.Wholes.{settled_whole, room_left, live_within}
use Rattle.spool_store.specs.Whole.{IsWhole}
use Rattle.spool_store.proofs.store.Store.settle.Goals as goal

pub add_settled-requires-clause-known : goal.add_settled-requires-clause-known
add_settled-requires-clause-known g c = sym (has-unplaced c.args.id c.self.inside.pending) ∙ ap (λ (s : StoreSeen _). has c.args.id s.pending) c.self.view_is ∙ c.requires.known

pub invariant_of-self : goal.invariant_of-self
invariant_of-self g c = λ up.
    let known = sym (has-unplaced c.args.id c.self.inside.pending) ∙ ap (λ (s : StoreSeen _). has c.args.id s.pending) c.self.view_is ∙ c.requires.known in
    subst (λ (l : List Place). IsWhole c.add_settled.new.log l c.min-self-inside.result (g.D.Disk.seen c.add_settled.new.disk)) (sym c.in-Ok.ensures.pending)
    (settled_whole c.self.inside.log c.add_settled.new.log c.self.inside.pending c.args.id c.self.inside.room c.min-self-inside.result (g.D.Disk.seen c.self.inside.disk) (g.D.Disk.seen c.add_settled.new.disk)
    (c.self.invariant up) known (subst (λ (l : List Place). Stands c.add_settled.new.log l (g.D.Disk.seen c.add_settled.new.disk)) c.in-Ok.ensures.pending c.in-Ok.ensures.stands) c.in-Ok.ensures.log
    (omega (arith, c.min-self-inside.ensures, c.len.ensures.len, ap (λ (l : List Place). length l) c.in-Ok.ensures.pending)))

pub returns-in-Ok-clause-ok : goal.returns-in-Ok-clause-ok
returns-in-Ok-clause-ok g c = (
  ap (λ (l : List Place). map unplaced l) c.in-Ok.ensures.pending ∙ without-unplaced c.args.id c.self.inside.pending ∙ ap (λ (s : StoreSeen _). without c.args.id s.pending) c.self.view_is,
  omega (arith, c.min-self-inside.ensures, c.len.ensures.len, length-map c.add_settled.new.pending unplaced, ap (λ (s : StoreSeen _). s.room) c.self.view_is),
  sym (ap (λ (s : StoreSeen _). s.down) c.self.view_is) ∙ c.if-self.false,
  c.if-self.false,
)

pub returns-in-Ok-clause-has_room : goal.returns-in-Ok-clause-has_room
returns-in-Ok-clause-has_room g c = λ up. room_left c.add_settled.new.log c.add_settled.new.pending c.min-self-inside.result (g.D.Disk.seen c.add_settled.new.disk) (invariant_of-self g c up)

pub returns-in-Ok-clause-within : goal.returns-in-Ok-clause-within
returns-in-Ok-clause-within g c = λ up. live_within c.add_settled.new.log c.add_settled.new.pending c.min-self-inside.result (g.D.Disk.seen c.add_settled.new.disk) (invariant_of-self g c up)
