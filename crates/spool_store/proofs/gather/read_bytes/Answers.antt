use Rattle.spool_store.proofs.StillLemmas.{still_call}
use Rattle.spool_store.proofs.gather.read_bytes.Goals as goal

pub returns-in-Ok-clause-still : goal.returns-in-Ok-clause-still
returns-in-Ok-clause-still g c = still_call c.args.area (g.D.Disk.seen c.args.disk.now) (g.D.Disk.seen c.read_exact.new.self) c.read_exact.ensures.time c.read_exact.ensures.images c.read_exact.ensures.same

pub returns-in-Err-clause-still : goal.returns-in-Err-clause-still
returns-in-Err-clause-still g c = still_call c.args.area (g.D.Disk.seen c.args.disk.now) (g.D.Disk.seen c.read_exact.new.self) c.read_exact.ensures.time c.read_exact.ensures.images c.read_exact.ensures.same
