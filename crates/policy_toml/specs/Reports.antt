-- What a reader of a policy file answers: what the document gives and its keys without effect, or the fault that is reported.
use Rattle.std.specs.Prelude.{◌≡◌, List, [], Option, Some, None, Result, Ok, Err, ⊤}
use Rattle.toml.specs.Data.{Members}
use Rattle.policy_fault.specs.declared.fault.PolicyFile.{PolicyFile}
use Rattle.policy_fault.specs.declared.fault.PolicyFault.{PolicyFault}
use Rattle.policy_fault.specs.declared.fault.PolicyFault.TheVariants as policy_fault
use Rattle.policy_fault.specs.declared.fault.PolicyPlace.{PolicyPlace}
use Rattle.policy_fault.specs.declared.fault.Why.TheVariants.{NotToml}
use Rattle.policy_toml.specs.declared.fault.Fault.{Fault}
use Rattle.policy_toml.specs.Places.{fault, first_of, whole_table, name_in_report}

-- a fault as it is reported
abbrev pub reported : PolicyFile → Fault → PolicyPlace
reported file f = record { file = file; table = name_in_report f.table f.number; key = f.key; why = f.why }

abbrev pub IsReportedFault : PolicyFile → Fault → PolicyFault → Type 0
IsReportedFault file f (policy_fault.At place) = place ≡ reported file f
IsReportedFault file f policy_fault.Memory = ⊤
IsReportedFault file f policy_fault.Search = ⊥

-- the refusal of a text that is no document
abbrev pub IsUnopened : PolicyFile → PolicyFault → Option Members → Type 0
IsUnopened file (policy_fault.At place) document = (document ≡ None) × (place ≡ reported file (fault [] whole_table NotToml))
IsUnopened file policy_fault.Memory document = ⊤
IsUnopened file policy_fault.Search document = ⊥

-- what the document gives, unless it has a fault
abbrev pub unless_fault : {A : Type 0} → Option Fault → A → Result A Fault
unless_fault None a = Ok a
unless_fault (Some f) a = Err f

-- by the faults of a document and what it gives; a text that is no document has the one fault
abbrev pub reading : {A : Type 0} → (Members → List Fault) → (Members → A) → Option Members → Result A Fault
reading faults give None = Err (fault [] whole_table NotToml)
reading faults give (Some ms) = unless_fault (first_of None (faults ms)) (give ms)

-- a refusal other than for memory is the one that is reported. No search engine fails where none is asked
abbrev pub IsRefusal : {A : Type 0} → PolicyFile → PolicyFault → Result A Fault → Type 0
IsRefusal file (policy_fault.At place) read = (found : Fault) × (read ≡ Err found) × (place ≡ reported file found)
IsRefusal file policy_fault.Memory read = ⊤
IsRefusal file policy_fault.Search read = ⊥
