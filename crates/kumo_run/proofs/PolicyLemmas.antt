-- A fault of policy texts has its cause as a refusal too.
use Rattle.std.proofs.Common.{◌≡◌, Result, IfErr, refl, sym, subst}
use Rattle.std.proofs.lemmas.Result.{IfErr-weaker}
use Rattle.kumo_outside.specs.Content.{TextsSeen}
use Rattle.kumo_outside.specs.Search.{SearchSeen}
use Rattle.command_words.specs.Commands.{PolicyNames}
use Rattle.policy_texts.specs.declared.load.LoadFault.{LoadFault}
use Rattle.policy_texts.specs.declared.load.LoadFault.TheVariants as load_fault
use Rattle.policy_texts.specs.Policies.{Stops, counts_of, HasCauseIn}
use Rattle.kumo_run.specs.declared.refusal.Refusal.{Refusal}
use Rattle.kumo_run.specs.declared.refusal.Refusal.TheVariants as refusal
use Rattle.kumo_run.specs.inside.PolicyCauses.{refusal_of_load, RefusesPolicy}

module _ (before after : TextsSeen) (searching searched : SearchSeen) (names : PolicyNames) where
  by_fault : (fault : LoadFault) → HasCauseIn (Stops before.told names) (counts_of before after searching searched) fault
      → RefusesPolicy before after searching searched names (refusal_of_load fault)
  by_fault (load_fault.Refused place) h = λ b a disk. (refl, h)
  by_fault load_fault.Limit h = λ b a disk. (refl, h)
  by_fault load_fault.ReadFault h = λ b a disk. (refl, (tt, h))
  by_fault load_fault.SearchFault h = λ b a disk. (refl, (tt, h))
  by_fault load_fault.Memory h = λ b a disk. (refl, tt)

  pub refuses_policy : (fault : LoadFault) (why : Refusal) → why ≡ refusal_of_load fault
      → HasCauseIn (Stops before.told names) (counts_of before after searching searched) fault
      → RefusesPolicy before after searching searched names why
  refuses_policy fault why e h = subst (RefusesPolicy before after searching searched names) (sym e) (by_fault fault h)

  -- memory may run out behind the loading
  pub refuses_memory : {X : Type 0} (r : Result X Refusal) → IfErr r (λ why. why ≡ refusal.Memory)
      → IfErr r (λ why. RefusesPolicy before after searching searched names why)
  refuses_memory r h =
      IfErr-weaker r _ _ (λ why e. subst (RefusesPolicy before after searching searched names) (sym e) (λ b a disk. (refl, tt))) h
