use Rattle.kumo_disk.proofs.Runs.{ran_same}
use Rattle.spool_store.proofs.StillLemmas.{synced_both}
use Rattle.spool_store.proofs.open.sync_both.Goals as goal

pub returns-clause-on_disk : goal.returns-clause-on_disk
returns-clause-on_disk g c = synced_both (g.D.Disk.seen c.sync.new.self) (g.D.Disk.seen c.sync-2.new.self) c.sync-2.result c.in_ok-sync.ensures.durable c.sync-2.ensures.durable
    (ran_same 1 (g.D.Disk.seen c.sync.new.self) (g.D.Disk.seen c.sync-2.new.self) c.sync-2.ensures.time c.sync-2.ensures.images c.sync-2.ensures.same)
