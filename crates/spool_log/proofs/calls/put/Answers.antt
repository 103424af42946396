use Rattle.std.proofs.Common.{length}
use Rattle.spool_log.proofs.calls.put.Goals as goal
use Rattle.spool_log.proofs.Bytes.{ran_put}

pub returns-clause-ran : goal.returns-clause-ran
returns-clause-ran g c = ran_put c.args.area c.args.at (length c.args.bytes.now) (g.D.Disk.seen c.args.disk.now) (g.D.Disk.seen c.write_at.new.self)
    c.write_at.ensures.time c.write_at.ensures.images c.write_at.ensures.part
