-- The names of options.
use Rattle.std.proofs.Common.{◌≡◌, ◌∙◌, refl, sym, ap, Some, unwrap_or}
use Rattle.policy_core.specs.declared.option_name.OptionName.{OptionName}
use Rattle.policy_core.specs.declared.option_name.OptionName.TheVariants as name
use Rattle.policy_core.specs.OptionNames.{name_of_option, option_named}

pub found_by_name : (o : OptionName) → option_named (name_of_option o) ≡ Some o
unfolding option_named
found_by_name name.ConnectionLimit = refl
found_by_name name.MessageRate = refl
found_by_name name.ConnectionRate = refl
found_by_name name.Deliveries = refl
found_by_name name.ReadyLimit = refl
found_by_name name.FailuresBeforeDelay = refl
found_by_name name.IdleTimeout = refl

-- an option is the one that is found by its name, so two with one name are one
pub own_name : (a b : OptionName) → name_of_option a ≡ name_of_option b → a ≡ b
own_name a b e = ap (λ found. unwrap_or found a) (sym (found_by_name a) ∙ ap option_named e ∙ found_by_name b)
