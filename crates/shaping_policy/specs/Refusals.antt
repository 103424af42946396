-- How the reader of a shaping file answers where it gives no data.
use Rattle.std.specs.Prelude.{◌≡◌, ◌≤◌, ℕ, Result, IfErr, ⊤}
use Rattle.kumo_base.specs.Causes.{Rose}
use Rattle.policy_fault.specs.declared.fault.PolicyFile.TheVariants as file
use Rattle.policy_fault.specs.declared.fault.PolicyFault.{PolicyFault}
use Rattle.policy_fault.specs.declared.fault.PolicyFault.TheVariants as policy_fault
use Rattle.policy_toml.specs.declared.fault.Fault.{Fault}
use Rattle.policy_toml.specs.Reports.{IsRefusal}

-- a refusal of the text is the one that is reported; nothing is said of a text for which there was no memory, or on which
-- the search engine failed
abbrev pub IsShapingRefusal : {A : Type 0} → PolicyFault → Result A Fault → Type 0
IsShapingRefusal (policy_fault.At place) read = IsRefusal file.Shaping (policy_fault.At place) read
IsShapingRefusal policy_fault.Memory read = ⊤
IsShapingRefusal policy_fault.Search read = ⊤

-- the engine's count of faults does not fall, and a read that answers Search raised it
pub record HasReadCause {T : Type 0} (before now : ℕ) (result : Result T PolicyFault) : Type 0 where
  pub later : before ≤ now
  pub failed : IfErr result (λ fault. fault ≡ policy_fault.Search → Rose before now)
