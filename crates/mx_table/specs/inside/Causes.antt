-- Why one line gives no row: what the calls that read a line answer.
use Rattle.std.specs.Prelude.{◌≡◌, Bool, false, Option, Some, Result, Err, ⊤}
use Rattle.policy_core.specs.declared.mx.MxRow.{MxRow}
use Rattle.policy_fault.specs.declared.fault.Why.{Why}
use Rattle.policy_fault.specs.declared.fault.Why.TheVariants.{BadName}
use Rattle.policy_fault.specs.declared.fault.PolicyFault.{PolicyFault}
use Rattle.policy_fault.specs.declared.fault.PolicyFault.TheVariants as policy_fault
use Rattle.mx_table.specs.declared.fault.RowFault.{RowFault}
use Rattle.mx_table.specs.declared.fault.RowFault.TheVariants as row_fault
use Rattle.mx_table.specs.MxText.{LineFault, reported}

-- a refusal other than for memory is the line's own
abbrev pub IsCauseOf : RowFault → Option (Result MxRow Why) → Type 0
IsCauseOf (row_fault.Refused why) line = line ≡ Some (Err why)
IsCauseOf row_fault.Memory line = ⊤

-- a refusal other than for memory says that a test of names failed
abbrev pub IsBadName : RowFault → Bool → Type 0
IsBadName (row_fault.Refused why) test = (why ≡ BadName) × (test ≡ false)
IsBadName row_fault.Memory test = ⊤

-- a fault other than for memory is the report of a refused line
abbrev pub IsRowFault : LineFault → PolicyFault → Type 0
IsRowFault found (policy_fault.At place) = place ≡ reported found
IsRowFault found policy_fault.Memory = ⊤
IsRowFault found policy_fault.Search = ⊥
