use Rattle.kumo_disk.specs.inside.Crash.{AllAfter}
use Rattle.kumo_disk.proofs.crash.Step.add_parts.Given as goal

abbrev pub invariant-loop-part : goal.invariant-loop-part
invariant-loop-part l = AllAfter l.self l.found.items
