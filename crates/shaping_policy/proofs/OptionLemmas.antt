-- What a value sets is the option that it is given to.
use Rattle.std.proofs.Common.{◌≡◌, refl, Result, Ok, Err}
use Rattle.std.specs.Prelude.{IfOk}
use Rattle.toml.specs.Data.{Data}
use Rattle.policy_fault.specs.declared.fault.Why.{Why}
use Rattle.policy_core.specs.declared.rules.Setting.{Setting}
use Rattle.policy_core.specs.declared.rules.Setting.TheVariants as set
use Rattle.policy_core.specs.declared.option_name.OptionName.{OptionName}
use Rattle.policy_core.specs.declared.option_name.OptionName.TheVariants as option
use Rattle.policy_core.specs.OptionNames.{option_of}
use Rattle.shaping_policy.specs.OptionValues.{number_at, rate_at, timeout_at, set_to, setting_of}

set_sets : {A : Type 0} (make : A → Setting) (name : OptionName) → ((a : A) → option_of (make a) ≡ name)
    → (read : Result A Why) → IfOk (set_to make read) (λ setting. option_of setting ≡ name)
set_sets make name made (Ok a) = made a
set_sets make name made (Err why) = tt

pub sets_its_own : (name : OptionName) (value : Data) → IfOk (setting_of name value) (λ setting. option_of setting ≡ name)
unfolding setting_of
sets_its_own option.ConnectionLimit d = set_sets set.ConnectionLimit _ (λ n. refl) (number_at d)
sets_its_own option.MessageRate d = set_sets set.MessageRate _ (λ t. refl) (rate_at d)
sets_its_own option.ConnectionRate d = set_sets set.ConnectionRate _ (λ t. refl) (rate_at d)
sets_its_own option.Deliveries d = set_sets set.Deliveries _ (λ n. refl) (number_at d)
sets_its_own option.ReadyLimit d = set_sets set.ReadyLimit _ (λ n. refl) (number_at d)
sets_its_own option.FailuresBeforeDelay d = set_sets set.FailuresBeforeDelay _ (λ n. refl) (number_at d)
sets_its_own option.IdleTimeout d = set_sets set.IdleTimeout _ (λ ms. refl) (timeout_at d)
