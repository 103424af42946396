-- What a connection may do, as the code says it.
use Rattle.history_core.specs.Openable.{Verdict, stale, spent, shed, halted, throttled, empty, work}
use Rattle.history_walk.specs.declared.verdict.Verdict as code
use Rattle.history_walk.specs.declared.verdict.Verdict.TheVariants as says

abbrev pub told : code.Verdict → Verdict
told says.Stale = stale
told says.Spent = spent
told says.Shed = shed
told says.Halted = halted
told (says.Throttled moment) = throttled moment
told says.Empty = empty
told (says.Work id) = work id
