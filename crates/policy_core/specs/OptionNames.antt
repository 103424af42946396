-- The options of a path by name. This list alone says which there are: the keys of a shaping file, the settings of rules and
-- the lines that explain a path follow it (KumoMTA's manual, make_egress_path, for the names).
use Rattle.std.specs.Prelude.{ℕ, List, [], ◌∷◌, Option, find, bytes_eq, codes}
use Rattle.policy_core.specs.declared.option_name.OptionName.{OptionName}
use Rattle.policy_core.specs.declared.option_name.OptionName.TheVariants as name
use Rattle.policy_core.specs.declared.rules.Setting.{Setting}
use Rattle.policy_core.specs.declared.rules.Setting.TheVariants as set

abbrev pub name_of_option : OptionName → List ℕ
name_of_option name.ConnectionLimit = codes "connection_limit"
name_of_option name.MessageRate = codes "max_message_rate"
name_of_option name.ConnectionRate = codes "max_connection_rate"
name_of_option name.Deliveries = codes "max_deliveries_per_connection"
name_of_option name.ReadyLimit = codes "max_ready"
name_of_option name.FailuresBeforeDelay = codes "consecutive_connection_failures_before_delay"
name_of_option name.IdleTimeout = codes "idle_timeout"

-- every option, in the order in which they are listed
abbrev pub option_names : List OptionName
option_names =
    name.ConnectionLimit ∷ name.MessageRate ∷ name.ConnectionRate ∷ name.Deliveries ∷ name.ReadyLimit
    ∷ name.FailuresBeforeDelay ∷ name.IdleTimeout ∷ []

-- the option of a name
unfoldable pub option_named : List ℕ → Option OptionName
option_named key = find (λ o. bytes_eq (name_of_option o) key) option_names

-- the option that a rule sets
abbrev pub option_of : Setting → OptionName
option_of (set.ConnectionLimit n) = name.ConnectionLimit
option_of (set.MessageRate t) = name.MessageRate
option_of (set.ConnectionRate t) = name.ConnectionRate
option_of (set.Deliveries n) = name.Deliveries
option_of (set.ReadyLimit n) = name.ReadyLimit
option_of (set.FailuresBeforeDelay n) = name.FailuresBeforeDelay
option_of (set.IdleTimeout ms) = name.IdleTimeout
