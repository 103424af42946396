-- Several calls of a disk, one after the other, as one.
use Rattle.std.specs.Prelude.{ℕ, List, IfSome}
use Rattle.kumo_disk.specs.Disk.{DiskSeen, Lasts, Each, ReadMoves, Any}

-- Calls that moved one area by a step, as far as a crash can tell, and never the other.
pub record Ran (area : ℕ) (step : List ℕ → List ℕ → Type 0) (old new : DiskSeen) : Type 0 where
  pub time : Lasts old new
  pub images : IfSome old.told (λ read. Each area step old new)
  pub reads : ReadMoves area Any old new
