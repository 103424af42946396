-- What applies on a path, line by line: the site, the source, the options in force while no rule has fired, and the rules.
use Rattle.std.specs.Prelude.{ℕ, ◌+◌, List, [], ◌∷◌, ◌++◌, Option, Some, None, codes, decimal}
use Rattle.std.specs.List.{flat_map}
use Rattle.serde_json.specs.Data.{string, array, Items, no_items, item}
use Rattle.serde_json.specs.Written.{compact_text}
use Rattle.throttle_spec.specs.Throttle.{Throttle}
use Rattle.policy_core.specs.declared.option_name.OptionName.{OptionName}
use Rattle.policy_core.specs.declared.option_name.OptionName.TheVariants as option
use Rattle.policy_core.specs.declared.options.InForce.{InForce}
use Rattle.policy_core.specs.declared.rules.Rule.{Rule}
use Rattle.policy_core.specs.declared.rules.Setting.{Setting}
use Rattle.policy_core.specs.declared.rules.Setting.TheVariants as setting
use Rattle.policy_core.specs.declared.rules.Action.{Action}
use Rattle.policy_core.specs.declared.rules.Action.TheVariants as action
use Rattle.policy_core.specs.declared.rules.Trigger.{Trigger}
use Rattle.policy_core.specs.declared.rules.Trigger.TheVariants as trigger
use Rattle.policy_core.specs.declared.site.Site.{Site}
use Rattle.policy_core.specs.declared.site.PathBase.{PathBase}
use Rattle.policy_core.specs.OptionNames.{name_of_option, option_names, option_of}
use Rattle.policy_core.specs.PathOptions.{in_force_of}

-- a line: its name, a blank and its value
abbrev pub line : List ℕ → List ℕ → List ℕ
line name value = name ++ 32 ∷ (value ++ 10 ∷ [])

-- a throttle: how many in how many milliseconds, and how many of these at one moment
abbrev pub throttle_text : Throttle → List ℕ
throttle_text t = decimal t.quantity ++ 47 ∷ (decimal t.period ++ (codes " burst " ++ decimal t.burst))

abbrev pub rate_text : Option Throttle → List ℕ
rate_text None = codes "none"
rate_text (Some t) = throttle_text t

-- a duration in milliseconds
abbrev pub timeout_text : Option ℕ → List ℕ
timeout_text None = codes "none"
timeout_text (Some milliseconds) = decimal milliseconds

-- what is in force of an option
abbrev pub value_text : InForce → OptionName → List ℕ
value_text o option.ConnectionLimit = decimal o.connection_limit
value_text o option.MessageRate = rate_text o.message_rate
value_text o option.ConnectionRate = rate_text o.connection_rate
value_text o option.Deliveries = decimal o.deliveries
value_text o option.ReadyLimit = decimal o.ready_limit
value_text o option.FailuresBeforeDelay = decimal o.failures_before_delay
value_text o option.IdleTimeout = timeout_text o.idle_timeout

abbrev pub option_line : InForce → OptionName → List ℕ
option_line o name = line (name_of_option name) (value_text o name)

-- every option, in the order in which they are listed
abbrev pub option_lines : InForce → List ℕ
option_lines o = flat_map (option_line o) option_names

-- what a rule sets an option to
abbrev pub set_value_text : Setting → List ℕ
set_value_text (setting.ConnectionLimit n) = decimal n
set_value_text (setting.MessageRate t) = throttle_text t
set_value_text (setting.ConnectionRate t) = throttle_text t
set_value_text (setting.Deliveries n) = decimal n
set_value_text (setting.ReadyLimit n) = decimal n
set_value_text (setting.FailuresBeforeDelay n) = decimal n
set_value_text (setting.IdleTimeout milliseconds) = decimal milliseconds

abbrev pub setting_text : Setting → List ℕ
setting_text s = name_of_option (option_of s) ++ (codes "=" ++ set_value_text s)

-- what a rule does
abbrev pub action_text : Action → List ℕ
action_text action.Suspend = codes "Suspend"
action_text action.SuspendTenant = codes "SuspendTenant"
action_text action.SuspendCampaign = codes "SuspendCampaign"
action_text (action.Set s) = codes "SetConfig " ++ setting_text s
action_text action.Nothing = codes "SetConfig none"

-- when it does so
abbrev pub trigger_text : Trigger → List ℕ
trigger_text trigger.Immediate = codes "Immediate"
trigger_text (trigger.Threshold count period) = codes "Threshold " ++ (decimal count ++ 47 ∷ decimal period)

-- its patterns, as a compact JSON list
abbrev pub pattern_items : List (List ℕ) → Items
pattern_items [] = no_items
pattern_items (pattern ∷ more) = item (string pattern) (pattern_items more)

unfoldable pub patterns_text : List (List ℕ) → List ℕ
patterns_text patterns = compact_text (array (pattern_items patterns))

abbrev pub rule_line : ℕ → Rule → List ℕ
rule_line number rule =
    codes "rule " ++ (decimal number ++ 32 ∷ (action_text rule.action ++ 32 ∷ (trigger_text rule.trigger
    ++ (codes " for " ++ (decimal rule.duration ++ (codes " on " ++ (patterns_text rule.patterns ++ 10 ∷ [])))))))

-- rules counted from a number on
abbrev pub rule_lines : ℕ → List Rule → List ℕ
rule_lines number [] = []
rule_lines number (rule ∷ more) = rule_line number rule ++ rule_lines (number + 1) more

-- all lines
unfoldable pub explained : PathBase → Site → List ℕ → List ℕ
explained base site source =
    line (codes "site") site.name
    ++ (line (codes "source") source
    ++ (option_lines (in_force_of base.options)
    ++ rule_lines 1 base.rules))
