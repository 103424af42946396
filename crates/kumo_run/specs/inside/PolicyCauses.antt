-- The refusal that a fault of policy texts comes to, and its cause.
use Rattle.kumo_outside.specs.Content.{TextsSeen, SinkSeen}
use Rattle.kumo_outside.specs.Search.{SearchSeen}
use Rattle.command_words.specs.Commands.{PolicyNames}
use Rattle.policy_texts.specs.declared.load.LoadFault.{LoadFault}
use Rattle.policy_texts.specs.declared.load.LoadFault.TheVariants as load_fault
use Rattle.kumo_run.specs.declared.refusal.Refusal.{Refusal}
use Rattle.kumo_run.specs.declared.refusal.Refusal.TheVariants as refusal
use Rattle.kumo_run.specs.Outside.{DiskShown, outside}
use Rattle.kumo_run.specs.Deeds.{nothing_done}
use Rattle.kumo_run.specs.Causes.{Refuses, policy}

abbrev pub refusal_of_load : LoadFault → Refusal
refusal_of_load (load_fault.Refused place) = refusal.Policy place
refusal_of_load load_fault.Limit = refusal.TextLimit
refusal_of_load load_fault.ReadFault = refusal.ReadFault
refusal_of_load load_fault.SearchFault = refusal.SearchFault
refusal_of_load load_fault.Memory = refusal.Memory

-- a text on policies is refused, whatever the sink shows
abbrev pub RefusesPolicy : TextsSeen → TextsSeen → SearchSeen → SearchSeen → PolicyNames → Refusal → Type 0
RefusesPolicy before after searching searched names why =
    (b a : SinkSeen) (disk : DiskShown)
    → Refuses (policy names) (outside before b searching disk) (outside after a searched disk) nothing_done why
