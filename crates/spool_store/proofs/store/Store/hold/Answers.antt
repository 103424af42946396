use Rattle.std.proofs.Common.{◌∙◌, arith, inl, inr, ⊎_elim, ap, sym, refl, length}
use Rattle.spool_store.proofs.Lists.{held_small}
use Rattle.spool_format.specs.Held.{held_payload}
use Rattle.spool_index.specs.Places.{has}
use Rattle.spool_store.specs.Content.{fresh}
use Rattle.spool_store.specs.Store.{StoreSeen, waiting_of}
use Rattle.spool_store.proofs.Waiting.{has-unplaced}
use Rattle.spool_store.proofs.Wholes.{held_whole, moved_whole, at_memory, room_left, live_within}
use Rattle.spool_store.proofs.store.Store.hold.Goals as goal

pub overflow_add-live_size-2 : goal.overflow_add-live_size-2
overflow_add-live_size-2 g c = omega (arith, c.live_size.ensures, (c.self.invariant c.if-self.false).live, c.held_length-size.ensures, held_small c.args.message.now c.requires.proper)

pub hold_within-requires-clause-fresh : goal.hold_within-requires-clause-fresh
hold_within-requires-clause-fresh g c =
    sym (has-unplaced c.args.message.now.id c.self.inside.pending) ∙ ap (λ (s : StoreSeen _). has c.args.message.now.id s.pending) c.self.view_is ∙ c.requires.fresh

pub invariant_of-self : goal.invariant_of-self
invariant_of-self g c = λ up.
    held_whole c.hold_within.new.log c.self.inside.pending c.hold_within.new.pending (waiting_of (fresh c.args.message.now)) c.self.inside.room (length (held_payload c.args.message.now)) (g.D.Disk.seen c.hold_within.new.disk)
    (c.self.invariant up).room_within c.in-Ok.ensures.stands c.in-Ok.ensures.version c.in-Ok.ensures.pending refl
    (omega (arith, c.live_size.ensures, c.held_length-size.ensures, c.if-live_size-size-gt-AREA_LIMIT.false))
    (⊎_elim (λ fit. inl (omega (arith, fit, c.held_length-size.ensures, c.len.ensures.len))) (λ anew. inr anew) c.in-Ok.ensures.fits)

pub invariant_of-self-in-Err-Memory : goal.invariant_of-self-in-Err-Memory
invariant_of-self-in-Err-Memory g c = λ up.
    moved_whole c.self.inside.log c.hold_within.new.log c.self.inside.pending c.hold_within.new.pending c.self.inside.room (g.D.Disk.seen c.self.inside.disk) (g.D.Disk.seen c.hold_within.new.disk)
    (c.self.invariant up) (at_memory _ _ c.in-Err-Memory.field-0-is c.in-Err-Memory.ensures.stands) (at_memory _ _ c.in-Err-Memory.field-0-is c.in-Err-Memory.ensures.version)
    (at_memory _ _ c.in-Err-Memory.field-0-is c.in-Err-Memory.ensures.pending) (at_memory _ _ c.in-Err-Memory.field-0-is c.in-Err-Memory.ensures.memory)

pub returns-in-Ok-clause-has_room : goal.returns-in-Ok-clause-has_room
returns-in-Ok-clause-has_room g c = λ up. room_left c.hold_within.new.log c.hold_within.new.pending c.self.inside.room (g.D.Disk.seen c.hold_within.new.disk) (invariant_of-self g c up)

pub returns-in-Err-Memory-clause-has_room : goal.returns-in-Err-Memory-clause-has_room
returns-in-Err-Memory-clause-has_room g c = λ up. room_left c.hold_within.new.log c.hold_within.new.pending c.self.inside.room (g.D.Disk.seen c.hold_within.new.disk) (invariant_of-self-in-Err-Memory g c up)

pub returns-in-Ok-clause-within : goal.returns-in-Ok-clause-within
returns-in-Ok-clause-within g c = λ up. live_within c.hold_within.new.log c.hold_within.new.pending c.self.inside.room (g.D.Disk.seen c.hold_within.new.disk) (invariant_of-self g c up)

pub returns-in-Err-Memory-clause-within : goal.returns-in-Err-Memory-clause-within
returns-in-Err-Memory-clause-within g c = λ up. live_within c.hold_within.new.log c.hold_within.new.pending c.self.inside.room (g.D.Disk.seen c.hold_within.new.disk) (invariant_of-self-in-Err-Memory g c up)
