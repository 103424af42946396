use Rattle.std.proofs.Common.{refl}
use Rattle.kumo_disk.specs.Memory.{reads}
use Rattle.kumo_disk.proofs.KeptCalls.{stays_spreads}
use Rattle.kumo_disk.proofs.mem_disk.MemDiskDisk.read.Goals as goal

pub returns-then-fails-clause-each : goal.returns-then-fails-clause-each
returns-then-fails-clause-each c = stays_spreads (reads c.args.self.now) (reads c.args.self.now) c.args.self.now.calls.items c.args.self.now.calls.items 0 0 refl refl c.args.area

pub returns-clause-each : goal.returns-clause-each
returns-clause-each c = stays_spreads (reads c.args.self.now) (reads c.args.self.now) c.args.self.now.calls.items c.args.self.now.calls.items 0 0 refl refl c.args.area
