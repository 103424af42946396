-- What a fault of a search comes to where an entry is tested.
use Rattle.kumo_outside.specs.declared.search.SearchFault.{SearchFault}
use Rattle.kumo_outside.specs.declared.search.SearchFault.TheVariants as fault
use Rattle.history_walk.specs.declared.legal.Breach.{Breach}
use Rattle.history_walk.specs.declared.legal.Breach.TheVariants as breach

abbrev pub breach_by : SearchFault → Breach
breach_by fault.Search = breach.Search
breach_by fault.Memory = breach.Memory
