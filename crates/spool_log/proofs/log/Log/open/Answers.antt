use Rattle.std.proofs.Common.{sym, ◌∙◌, arith}
use Rattle.spool_log.specs.declared.head.Start.TheVariants.{Wrong}
use Rattle.spool_log.proofs.Headers.{start_found, header_found}
use Rattle.spool_log.proofs.log.Log.open.Goals as goal

pub returns-in-Wrong-clause-refused : goal.returns-in-Wrong-clause-refused
returns-in-Wrong-clause-refused g c = start_found c.args.area (g.D.Disk.seen c.args.disk.now) c.read.new.buffer _ c.in-Ok.n c.in-Ok.ensures.bytes (omega arith) (omega (arith, c.in-Ok.ensures.bound))
    c.split_at.ensures.front (Wrong c.in-Wrong.at) (sym c.start_in.ensures.value ∙ c.in-Wrong.is)

pub returns-in-Headed-clause-found : goal.returns-in-Headed-clause-found
returns-in-Headed-clause-found g c = header_found c.args.area (g.D.Disk.seen c.args.disk.now) c.read.new.buffer _ c.in-Ok.n c.in-Ok.ensures.bytes (omega arith) (omega (arith, c.in-Ok.ensures.bound))
    c.split_at.ensures.front c.in-Headed.header (sym c.start_in.ensures.value ∙ c.in-Headed.is) c.in-Headed.ensures.front
