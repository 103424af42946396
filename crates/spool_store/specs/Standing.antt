-- How the areas stand while a store is used.
use Rattle.std.specs.Prelude.{◌≡◌, ℕ, ◌≤◌, List, [], Some, Result, IfErr, IfSome, ⊤}
use Rattle.kumo_base.specs.Causes.{Rose}
use Rattle.kumo_disk.specs.Disk.{Image, area_of, DiskSeen}
use Rattle.spool_log.specs.Area.{LogRecord, Form}
use Rattle.spool_log.specs.Log.{IsReady}
use Rattle.spool_log.specs.declared.head.Header.{Header}
use Rattle.spool_log.specs.declared.log.Log.{Log}
use Rattle.spool_index.specs.declared.place.Place.{Place}
use Rattle.spool_store.specs.declared.faults.RewriteFault.{RewriteFault}
use Rattle.spool_store.specs.declared.faults.RewriteFault.TheVariants as fault
use Rattle.spool_store.specs.Content.{Item, played, places_of}
use Rattle.spool_store.specs.Reading.{force_in, InForce}
use Rattle.spool_store.specs.Crash.{IsOnDisk}

-- this area is in force, and its records up to this end leave these messages
pub record Standing (area : ℕ) (header : Header) (end : ℕ) (items : List Item) (image : Image) : Type 0 where
  pub in_force : force_in image ≡ InForce area
  pub rs : List LogRecord
  pub form : Form header rs end (area_of area image)
  pub plays : played header.version 16 [] rs ≡ Some items

-- the log's area is in force with these messages pending, and all is on the disk
pub record Stands (log : Log) (places : List Place) (seen : DiskSeen) : Type 0 where
  pub ready : IsReady log seen
  pub on_disk : IsOnDisk seen
  pub holds : IfSome seen.told (λ read.
      (items : List Item) × Standing log.area log.header log.end items read × (places ≡ places_of items))

-- where memory was wanted nothing was done
abbrev pub IsUndone : Type 0 → RewriteFault → Type 0
IsUndone Undone fault.DiskFault = ⊤
IsUndone Undone fault.Memory = Undone

-- a fault of the disk comes only where its count rose
abbrev pub IsRewriteCause : Type 0 → RewriteFault → Type 0
IsRewriteCause Risen fault.DiskFault = Risen
IsRewriteCause Risen fault.Memory = ⊤

pub record HasRewriteCause {T : Type 0} (before now : ℕ) (result : Result T RewriteFault) : Type 0 where
  pub later : before ≤ now
  pub failed : IfErr result (IsRewriteCause (Rose before now))
