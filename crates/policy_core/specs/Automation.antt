-- What rules of automation do (KumoMTA's manual, the shaping helper's automation): when one fires, whom it then holds back, and
-- which options it sets.
use Rattle.std.specs.Prelude.{ℕ, ◌+◌, nat_le, nat_lt, List, Bool, true, false, ◌&&◌, Option, Some, None, is_some, option_map, option_and_then, unwrap_or, count_by, filter, bytes_eq}
use Rattle.std.specs.List.{enumerate_from}
use Rattle.std.specs.Option.{option_or}
use Rattle.kumo_base.specs.Moment.{clamped}
use Rattle.queue_name.specs.QueueName.{Name}
use Rattle.throttle_spec.specs.Throttle.{Throttle}
use Rattle.policy_core.specs.Layers.{last_set}
use Rattle.policy_core.specs.PathOptions.{in_force_of}
use Rattle.policy_core.specs.declared.options.InForce.{InForce}
use Rattle.policy_core.specs.declared.site.PathBase.{PathBase}
use Rattle.policy_core.specs.declared.rules.Rule.{Rule}
use Rattle.policy_core.specs.declared.rules.Trigger.{Trigger}
use Rattle.policy_core.specs.declared.rules.Trigger.TheVariants.{Immediate, Threshold}
use Rattle.policy_core.specs.declared.rules.Action.{Action}
use Rattle.policy_core.specs.declared.rules.Action.TheVariants as action
use Rattle.policy_core.specs.declared.rules.Setting.{Setting}
use Rattle.policy_core.specs.declared.rules.Setting.TheVariants as setting

-- a match at a moment fires its rule, by the moments of all its matches so far, this one among them: each does, or one that
-- is at least the count-th within the period
abbrev pub is_fired : Trigger → List ℕ → ℕ → Bool
is_fired Immediate moments t = true
is_fired (Threshold count period) moments t = nat_le count (count_by (λ s. nat_lt t (clamped (s + period))) moments)

-- components that are equal, or both not there
abbrev pub is_same_component : Option (List ℕ) → Option (List ℕ) → Bool
is_same_component None None = true
is_same_component None (Some b) = false
is_same_component (Some a) None = false
is_same_component (Some a) (Some b) = bytes_eq a b

-- fired by the reply to a message of one queue, it holds back those of another at the same site
abbrev pub covers : Action → Name → Name → Bool
covers action.SuspendTenant fired name = is_some fired.tenant && is_same_component fired.tenant name.tenant
covers action.SuspendCampaign fired name =
    is_some fired.campaign && is_same_component fired.campaign name.campaign && is_same_component fired.tenant name.tenant
covers _ fired name = false

abbrev pub is_suspend : Action → Bool
is_suspend action.Suspend = true
is_suspend _ = false

-- a rule of a path by its number, which is counted from 1
abbrev pub numbered_rules : PathBase → List (ℕ × Rule)
numbered_rules base = enumerate_from 1 base.rules

-- what a rule sets
abbrev pub setting_by : Action → Option Setting
setting_by (action.Set value) = Some value
setting_by _ = None

abbrev pub connection_limit_in : Setting → Option ℕ
connection_limit_in (setting.ConnectionLimit n) = Some n
connection_limit_in _ = None

abbrev pub message_rate_in : Setting → Option Throttle
message_rate_in (setting.MessageRate throttle) = Some throttle
message_rate_in _ = None

abbrev pub connection_rate_in : Setting → Option Throttle
connection_rate_in (setting.ConnectionRate throttle) = Some throttle
connection_rate_in _ = None

abbrev pub deliveries_in : Setting → Option ℕ
deliveries_in (setting.Deliveries n) = Some n
deliveries_in _ = None

abbrev pub ready_limit_in : Setting → Option ℕ
ready_limit_in (setting.ReadyLimit n) = Some n
ready_limit_in _ = None

abbrev pub failures_before_delay_in : Setting → Option ℕ
failures_before_delay_in (setting.FailuresBeforeDelay n) = Some n
failures_before_delay_in _ = None

abbrev pub idle_timeout_in : Setting → Option ℕ
idle_timeout_in (setting.IdleTimeout ms) = Some ms
idle_timeout_in _ = None

-- what a rule sets of one option
abbrev pub set_by : {V : Type 0} → (Setting → Option V) → ℕ × Rule → Option V
set_by option r = option_and_then option (setting_by r.1.action)

-- the number of a rule that sets one option
abbrev pub key_by : {V : Type 0} → (Setting → Option V) → ℕ × Rule → Option ℕ
key_by option r = option_map (λ value. r.0) (set_by option r)

-- of each option what the last of these rules that set it says, else what the base has; a key is the number of that rule, or 0
abbrev pub in_force_by : List (ℕ × Rule) → InForce → InForce
in_force_by rules base = record {
  connection_limit = unwrap_or (last_set rules (set_by connection_limit_in)) base.connection_limit;
  message_rate = option_or (last_set rules (set_by message_rate_in)) base.message_rate;
  message_key = unwrap_or (last_set rules (key_by message_rate_in)) 0;
  connection_rate = option_or (last_set rules (set_by connection_rate_in)) base.connection_rate;
  connection_key = unwrap_or (last_set rules (key_by connection_rate_in)) 0;
  deliveries = unwrap_or (last_set rules (set_by deliveries_in)) base.deliveries;
  ready_limit = unwrap_or (last_set rules (set_by ready_limit_in)) base.ready_limit;
  failures_before_delay = unwrap_or (last_set rules (set_by failures_before_delay_in)) base.failures_before_delay;
  idle_timeout = option_or (last_set rules (set_by idle_timeout_in)) base.idle_timeout;
}

-- what is in force on a path while the rules of these numbers are
unfoldable pub limits_of : PathBase → (ℕ → Bool) → InForce
limits_of base is_in_force = in_force_by (filter (λ r. is_in_force r.0) (numbered_rules base)) (in_force_of base.options)
