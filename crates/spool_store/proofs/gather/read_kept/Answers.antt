use Rattle.std.proofs.Common.{arith}
use Rattle.kumo_disk.specs.Disk.{area_of}
use Rattle.kumo_disk.proofs.Runs.{at_some, if_some}
use Rattle.spool_store.specs.inside.Replay.{StandsThere}
use Rattle.spool_store.proofs.GatherLemmas.{not_empty}
use Rattle.spool_store.proofs.gather.read_kept.Goals as goal

pub returns-then-place-eq0-clause-fault : goal.returns-then-place-eq0-clause-fault
returns-then-place-eq0-clause-fault g c = if_some (λ read. ⊥) (g.D.Disk.seen c.args.disk.now).told (λ read is.
    not_empty (area_of c.args.area read) c.args.place (at_some (λ read. StandsThere (area_of c.args.area read) c.args.place) (g.D.Disk.seen c.args.disk.now).told read is c.requires.stands) (omega (arith, c.if-place-eq0.true)))
