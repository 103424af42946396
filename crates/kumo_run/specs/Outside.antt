-- What the devices of the outside show together, before a call or after it.
use Rattle.std.specs.Prelude.{ℕ, Option}
use Rattle.kumo_disk.specs.Disk.{Image, DiskSeen}
use Rattle.kumo_outside.specs.Content.{TextsSeen, SinkSeen}
use Rattle.kumo_outside.specs.Search.{SearchSeen}

-- what a read gives of both areas, where the disk tells it, and the faults counted so far
pub record DiskShown : Type 0 where
  pub told : Option Image
  pub faults : ℕ

abbrev pub shown : DiskSeen → DiskShown
shown seen = record { told = seen.told; faults = seen.faults }

-- the texts that are read, the sink that is written, the search engine and the disk
pub record Outside : Type 0 where
  pub texts : TextsSeen
  pub out : SinkSeen
  pub search : SearchSeen
  pub disk : DiskShown

abbrev pub outside : TextsSeen → SinkSeen → SearchSeen → DiskShown → Outside
outside texts out search disk = record { texts = texts; out = out; search = search; disk = disk }
