use Rattle.std.proofs.Common.{vec_len}
use Rattle.kumo_disk.specs.inside.Crash.{shows, AllMay, AllAfter}
use Rattle.kumo_disk.proofs.crash.Step.add_below.Given as goal

abbrev pub invariant-loop-branch : goal.invariant-loop-branch
invariant-loop-branch l = record { below : AllMay (shows l.self.before.now) l.self.rest.now l.below.items; found : AllAfter l.self l.found.items }

abbrev pub decreases-loop-branch : goal.decreases-loop-branch
decreases-loop-branch l = vec_len l.below
