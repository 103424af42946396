-- The number of each status.
use Rattle.std.specs.Prelude.{ℕ}
use Rattle.kumo_run.specs.declared.status.Status.{Status}
use Rattle.kumo_run.specs.declared.status.Status.TheVariants.{Drained, Usage, Policy, Mail, ReadFault, WriteFault, SpoolFault, SpoolDamaged, Limit, Memory, NotYet, SearchFault}

abbrev pub status_number : Status → ℕ
status_number Drained = 0
status_number Usage = 2
status_number Policy = 3
status_number Mail = 4
status_number ReadFault = 5
status_number WriteFault = 6
status_number SpoolFault = 7
status_number SpoolDamaged = 8
status_number Limit = 10
status_number Memory = 11
status_number NotYet = 12
status_number SearchFault = 16
