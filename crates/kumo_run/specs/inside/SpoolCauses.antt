-- The refusal that a fault of opening a spool comes to, and its cause.
use Rattle.kumo_outside.specs.Content.{TextsSeen, SinkSeen}
use Rattle.kumo_outside.specs.Search.{SearchSeen}
use Rattle.spool_store.specs.declared.faults.OpenFault.{OpenFault}
use Rattle.spool_store.specs.declared.faults.OpenFault.TheVariants as open_fault
use Rattle.kumo_run.specs.declared.refusal.Refusal.{Refusal}
use Rattle.kumo_run.specs.declared.refusal.Refusal.TheVariants as refusal
use Rattle.kumo_run.specs.Outside.{DiskShown, outside}
use Rattle.kumo_run.specs.Deeds.{nothing_done}
use Rattle.kumo_run.specs.Causes.{Refuses, areas}

abbrev pub refusal_of_open : OpenFault → Refusal
refusal_of_open open_fault.DiskFault = refusal.SpoolFault
refusal_of_open (open_fault.Damaged area at) = refusal.SpoolDamaged area at
refusal_of_open (open_fault.TooLarge pending) = refusal.SpoolLimit
refusal_of_open open_fault.Memory = refusal.Memory

-- the command `spool` is refused, whatever the other devices show
abbrev pub RefusesSpool : DiskShown → DiskShown → Refusal → Type 0
RefusesSpool before after why =
    (texts read : TextsSeen) (b a : SinkSeen) (searching searched : SearchSeen)
    → Refuses areas (outside texts b searching before) (outside read a searched after) nothing_done why
