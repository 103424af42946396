-- The values of a rule in a shaping file: its patterns, actions, trigger and duration (KumoMTA's manual, traffic shaping
-- automation; the exact spellings are this project's).
use Rattle.std.specs.Prelude.{ℕ, nat_le, List, [], ◌++◌, length, Bool, true, ◌&&◌, ◌||◌, Option, Some, None, Result, Ok, Err, option_and_then, bytes_eq, codes, if◌then◌else◌}
use Rattle.std.specs.List.{list_any, before_first, after_first}
use Rattle.toml.specs.Data.{Data, string, table, Items, no_items, item, Members, no_members, member, get_member, as_str, as_array, as_table}
use Rattle.kumo_outside.specs.Search.{is_pattern}
use Rattle.throttle_spec.specs.ThrottleText.{is_slash, number_of, period_of}
use Rattle.policy_fault.specs.declared.fault.Why.{Why}
use Rattle.policy_fault.specs.declared.fault.Why.TheVariants.{BadType, BadPattern, BadTrigger, BadAction, BadDuration}
use Rattle.policy_core.specs.declared.rules.Setting.{Setting}
use Rattle.policy_core.specs.declared.rules.Action.{Action}
use Rattle.policy_core.specs.declared.rules.Action.TheVariants as act
use Rattle.policy_core.specs.declared.rules.Trigger.{Trigger}
use Rattle.policy_core.specs.declared.rules.Trigger.TheVariants as when
use Rattle.policy_core.specs.Limits.{greatest_count}
use Rattle.policy_toml.specs.Values.{duration_at}
use Rattle.shaping_policy.specs.Limits.{pattern_limit}
use Rattle.shaping_policy.specs.OptionValues.{setting_at}

-- by whether there is a list
abbrev pub on_items : {A : Type 0} → (Items → A) → A → Option Items → A
on_items some none None = none
on_items some none (Some ds) = some ds

-- one value, or the items of a list of them
abbrev pub items_of : Data → Items
items_of d = on_items (λ ds. ds) (item d no_items) (as_array d)

abbrev pub items_if_there : Option Data → Items
items_if_there None = no_items
items_if_there (Some d) = items_of d

-- the items at a key, none where it is not there
abbrev pub items_at : List ℕ → Members → Items
items_at key ms = items_if_there (get_member key ms)

-- what each item gives, one after another
abbrev pub over_items : {A : Type 0} → (Data → List A) → Items → List A
over_items give no_items = []
over_items give (item d ds) = give d ++ over_items give ds

-- the keys of a table are some of these two
abbrev pub holds_only : List ℕ → List ℕ → Members → Bool
holds_only one other no_members = true
holds_only one other (member key d ms) = (bytes_eq key one || bytes_eq key other) && holds_only one other ms

-- a search pattern of a text that is not too long
abbrev pub pattern_text : Option (List ℕ) → Result (List ℕ) Why
pattern_text None = Err BadPattern
pattern_text (Some text) = if nat_le (length text) pattern_limit && is_pattern text then Ok text else Err BadPattern

unfoldable pub pattern_at : Data → Result (List ℕ) Why
pattern_at d = pattern_text (as_str d)

-- an action that is a word
abbrev pub action_named : List ℕ → Result Action Why
action_named text =
    if bytes_eq text (codes "Suspend") then Ok act.Suspend
    else (if bytes_eq text (codes "SuspendTenant") then Ok act.SuspendTenant
    else (if bytes_eq text (codes "SuspendCampaign") then Ok act.SuspendCampaign
    else Err BadAction))

-- an action that sets an option; one that has no effect here does nothing
abbrev pub action_of : Option (Result Setting Why) → Result Action Why
action_of None = Ok act.Nothing
action_of (Some (Ok setting)) = Ok (act.Set setting)
action_of (Some (Err why)) = Err why

abbrev pub config_of : Option (List ℕ) → Option Data → Result Action Why
config_of None value = Err BadAction
config_of (Some name) None = Err BadAction
config_of (Some name) (Some d) = action_of (setting_at name d)

-- the table of `SetConfig` has a name and a value and nothing else
abbrev pub config_in : Members → Result Action Why
config_in ms =
    if holds_only (codes "name") (codes "value") ms
    then config_of (option_and_then as_str (get_member (codes "name") ms)) (get_member (codes "value") ms)
    else Err BadAction

abbrev pub config_at : Option Members → Result Action Why
config_at None = Err BadAction
config_at (Some ms) = config_in ms

abbrev pub action_in : Members → Result Action Why
action_in ms =
    if holds_only (codes "SetConfig") (codes "SetConfig") ms
    then config_at (option_and_then as_table (get_member (codes "SetConfig") ms))
    else Err BadAction

-- one action
unfoldable pub action_at : Data → Result Action Why
action_at (string s) = action_named s
action_at (table ms) = action_in ms
action_at _ = Err BadAction

-- a threshold, as `3/hr`
abbrev pub threshold_of : Option ℕ → Option ℕ → Result Trigger Why
threshold_of None period = Err BadTrigger
threshold_of (Some n) None = Err BadTrigger
threshold_of (Some n) (Some period) =
    if nat_le 1 n && nat_le n greatest_count then Ok (when.Threshold n period) else Err BadTrigger

abbrev pub threshold_in : List ℕ → Result Trigger Why
threshold_in text =
    if list_any is_slash text then threshold_of (number_of (before_first is_slash text)) (period_of (after_first is_slash text))
    else Err BadTrigger

abbrev pub threshold_at : Option (List ℕ) → Result Trigger Why
threshold_at None = Err BadTrigger
threshold_at (Some text) = threshold_in text

abbrev pub trigger_in : Members → Result Trigger Why
trigger_in ms =
    if holds_only (codes "Threshold") (codes "Threshold") ms
    then threshold_at (option_and_then as_str (get_member (codes "Threshold") ms))
    else Err BadTrigger

-- a trigger; without one each reply that matches fires
unfoldable pub trigger_at : Option Data → Result Trigger Why
trigger_at None = Ok when.Immediate
trigger_at (Some (string s)) = if bytes_eq s (codes "Immediate") then Ok when.Immediate else Err BadTrigger
trigger_at (Some (table ms)) = trigger_in ms
trigger_at (Some _) = Err BadType

-- a duration, which has to be there
unfoldable pub lasting_at : Option Data → Result ℕ Why
lasting_at None = Err BadDuration
lasting_at (Some d) = duration_at d
