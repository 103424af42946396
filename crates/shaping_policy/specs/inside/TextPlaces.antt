-- The places of texts of rules, as the code lists them.
use Rattle.std.specs.Prelude.{codes}
use Rattle.policy_fault.specs.declared.fault.Why.TheVariants.{BadPattern}
use Rattle.policy_toml.specs.declared.fault.Fault.{Fault}
use Rattle.policy_toml.specs.Places.{fault_in}
use Rattle.shaping_policy.specs.declared.text_places.TextPlace.{TextPlace}

-- the fault of a text that is one too many
abbrev pub seen_place : TextPlace → Fault
seen_place p = fault_in p.table.now p.number (codes "regex") p.item BadPattern
