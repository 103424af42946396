use Rattle.std.proofs.Common.{reverse}
use Rattle.kumo_disk.specs.Memory.{may_as_read}
use Rattle.kumo_disk.specs.inside.Crash.{shows}
use Rattle.kumo_disk.proofs.crash.Step.add_parts.Goals as goal

pub add-requires-clause-may : goal.add-requires-clause-may
add-requires-clause-may c = may_as_read (shows c.args.self.now.before.now) (reverse c.args.self.now.rest.now) (shows c.in_ok-again.field-0) c.in_ok-again.ensures

pub add-requires-in-loop-part-clause-may : goal.add-requires-in-loop-part-clause-may
add-requires-in-loop-part-clause-may c = may_as_read (shows c.args.self.now.before.now) (reverse c.args.self.now.rest.now) (shows c.in_ok-again-2.field-0) c.in_ok-again-2.ensures
