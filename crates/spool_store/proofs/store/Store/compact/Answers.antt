use Rattle.std.proofs.Common.{inr}
use Rattle.spool_store.proofs.Wholes.{kept_whole, room_left, live_within}
use Rattle.spool_store.proofs.store.Store.compact.Goals as goal

pub invariant_of-self : goal.invariant_of-self
invariant_of-self g c = λ up.
    kept_whole c.self.inside.log c.rewrite.new.log c.self.inside.pending c.rewrite.new.pending c.self.inside.room c.self.inside.room (g.D.Disk.seen c.self.inside.disk) (g.D.Disk.seen c.rewrite.new.disk)
    (c.self.invariant up) c.in-Ok.ensures.stands c.in-Ok.ensures.log.0 c.in-Ok.ensures.pending (c.self.invariant up).room_within (inr c.in-Ok.ensures.log.1)

pub returns-in-Ok-clause-has_room : goal.returns-in-Ok-clause-has_room
returns-in-Ok-clause-has_room g c = λ up. room_left c.rewrite.new.log c.rewrite.new.pending c.self.inside.room (g.D.Disk.seen c.rewrite.new.disk) (invariant_of-self g c up)

pub returns-in-Ok-clause-within : goal.returns-in-Ok-clause-within
returns-in-Ok-clause-within g c = λ up. live_within c.rewrite.new.log c.rewrite.new.pending c.self.inside.room (g.D.Disk.seen c.rewrite.new.disk) (invariant_of-self g c up)
