-- The values of the options of a path in a shaping file (KumoMTA's manual, make_egress_path and the shaping helper).
use Rattle.std.specs.Prelude.{ℕ, ℤ, pos, negsuc, nat_le, List, ◌&&◌, Option, Some, None, Result, Ok, Err, option_map, codes, if◌then◌else◌}
use Rattle.std.specs.List.{list_any}
use Rattle.toml.specs.Data.{Data, string, integer, Members}
use Rattle.throttle_spec.specs.Throttle.{Throttle}
use Rattle.throttle_spec.specs.ThrottleText.{is_underscore, without_word, number_of, throttle_of}
use Rattle.throttle_spec.specs.declared.parse.ThrottleFault.{ThrottleFault}
use Rattle.policy_fault.specs.declared.fault.Why.{Why}
use Rattle.policy_fault.specs.declared.fault.Why.TheVariants.{BadType, BadOption, BadThrottle}
use Rattle.policy_core.specs.declared.option_name.OptionName.{OptionName}
use Rattle.policy_core.specs.declared.option_name.OptionName.TheVariants as option
use Rattle.policy_core.specs.declared.options.Options.{Options}
use Rattle.policy_core.specs.Limits.{greatest_option}
use Rattle.policy_core.specs.declared.rules.Setting.{Setting}
use Rattle.policy_core.specs.declared.rules.Setting.TheVariants as set
use Rattle.policy_core.specs.OptionNames.{name_of_option, option_named}
use Rattle.policy_toml.specs.Values.{duration_at}
use Rattle.policy_toml.specs.Walks.{value_at}

-- a number that an option may have
abbrev pub option_number : ℕ → Result ℕ Why
option_number n = if nat_le 1 n && nat_le n greatest_option then Ok n else Err BadOption

abbrev pub whole_number : ℤ → Result ℕ Why
whole_number (pos n) = option_number n
whole_number (negsuc n) = Err BadOption

abbrev pub spelled_number : Option ℕ → Result ℕ Why
spelled_number None = Err BadOption
spelled_number (Some n) = option_number n

-- the number that a text writes in digits alone, behind an optional `local:`
abbrev pub digits_in : List ℕ → Option ℕ
digits_in text = if list_any is_underscore text then None else number_of (without_word (codes "local:") text)

-- the value of an option that is a number: a whole number, or a text of one
unfoldable pub number_at : Data → Result ℕ Why
number_at (string s) = spelled_number (digits_in s)
number_at (integer n) = whole_number n
number_at _ = Err BadType

abbrev pub spelled_rate : Result Throttle ThrottleFault → Result Throttle Why
spelled_rate (Ok rate) = Ok rate
spelled_rate (Err fault) = Err BadThrottle

-- the value of an option that is a rate: the text of a throttle
unfoldable pub rate_at : Data → Result Throttle Why
rate_at (string s) = spelled_rate (throttle_of s)
rate_at _ = Err BadType

-- the value of an option that is a duration of at least a millisecond: a text with units, or a whole number of seconds
abbrev pub option_duration : Result ℕ Why → Result ℕ Why
option_duration (Ok milliseconds) = if nat_le 1 milliseconds then Ok milliseconds else Err BadOption
option_duration (Err why) = Err BadOption

unfoldable pub timeout_at : Data → Result ℕ Why
timeout_at (string s) = option_duration (duration_at (string s))
timeout_at (integer n) = option_duration (duration_at (integer n))
timeout_at _ = Err BadType

abbrev pub set_to : {A : Type 0} → (A → Setting) → Result A Why → Result Setting Why
set_to make (Ok a) = Ok (make a)
set_to make (Err why) = Err why

-- what a value sets an option to
unfoldable pub setting_of : OptionName → Data → Result Setting Why
setting_of option.ConnectionLimit d = set_to set.ConnectionLimit (number_at d)
setting_of option.MessageRate d = set_to set.MessageRate (rate_at d)
setting_of option.ConnectionRate d = set_to set.ConnectionRate (rate_at d)
setting_of option.Deliveries d = set_to set.Deliveries (number_at d)
setting_of option.ReadyLimit d = set_to set.ReadyLimit (number_at d)
setting_of option.FailuresBeforeDelay d = set_to set.FailuresBeforeDelay (number_at d)
setting_of option.IdleTimeout d = set_to set.IdleTimeout (timeout_at d)

-- what a key and a value set, where the key is the name of an option
unfoldable pub setting_at : List ℕ → Data → Option (Result Setting Why)
setting_at key d = option_map (λ o. setting_of o d) (option_named key)

-- the options that a table sets
unfoldable pub options_of : Members → Options
options_of ms = record {
  connection_limit = value_at number_at (name_of_option option.ConnectionLimit) ms;
  max_message_rate = value_at rate_at (name_of_option option.MessageRate) ms;
  max_connection_rate = value_at rate_at (name_of_option option.ConnectionRate) ms;
  max_deliveries_per_connection = value_at number_at (name_of_option option.Deliveries) ms;
  max_ready = value_at number_at (name_of_option option.ReadyLimit) ms;
  failures_before_delay = value_at number_at (name_of_option option.FailuresBeforeDelay) ms;
  idle_timeout = value_at timeout_at (name_of_option option.IdleTimeout) ms;
}
