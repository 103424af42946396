-- What a store that is not down keeps true of its parts.
use Rattle.std.specs.Prelude.{◌≡◌, ℕ, ◌+◌, ◌*◌, ◌≤◌, List, length}
use Rattle.kumo_disk.specs.Disk.{DiskSeen}
use Rattle.spool_log.specs.declared.log.Log.{Log}
use Rattle.spool_index.specs.declared.place.Place.{Place}
use Rattle.spool_index.specs.Places.{live_size}
use Rattle.spool_store.specs.declared.limits.TheConstants.{AREA_LIMIT}
use Rattle.spool_store.specs.Standing.{Stands}

pub record IsWhole (log : Log) (places : List Place) (room : ℕ) (seen : DiskSeen) : Type 0 where
  pub stands : Stands log places seen
  pub version : log.header.version ≡ 2
  pub live : live_size places ≤ AREA_LIMIT
  pub room_within : room ≤ length places
  pub fits : log.end + 1 + 22 * length places + 34 * room ≤ AREA_LIMIT
