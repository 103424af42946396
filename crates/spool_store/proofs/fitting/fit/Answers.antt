use Rattle.spool_store.proofs.Keeping.{since_kept}
use Rattle.spool_store.proofs.fitting.fit.Goals as goal

pub returns-in-Ok-clause-since : goal.returns-in-Ok-clause-since
returns-in-Ok-clause-since g c = λ kept content. since_kept kept (g.D.Disk.seen c.args.disk.now) (g.D.Disk.seen c.rewrite.new.disk) content c.rewrite.ensures.since

pub returns-in-Err-clause-since : goal.returns-in-Err-clause-since
returns-in-Err-clause-since g c = λ kept content. since_kept kept (g.D.Disk.seen c.args.disk.now) (g.D.Disk.seen c.rewrite.new.disk) content c.rewrite.ensures.since
