-- Options that rules set, one rule after another.
use Rattle.std.specs.Prelude.{ℕ, List, [], ◌∷◌, unwrap_or, option_map}
use Rattle.std.specs.Option.{option_or}
use Rattle.policy_core.specs.declared.rules.Rule.{Rule}
use Rattle.policy_core.specs.declared.rules.Setting.{Setting}
use Rattle.policy_core.specs.declared.options.InForce.{InForce}
use Rattle.policy_core.specs.Automation.{set_by, key_by, connection_limit_in, message_rate_in, connection_rate_in, deliveries_in, ready_limit_in, failures_before_delay_in, idle_timeout_in}

-- what is in force once the rule of a number set one option
abbrev pub with_setting : ℕ → Setting → InForce → InForce
with_setting number setting now = record {
  connection_limit = unwrap_or (connection_limit_in setting) now.connection_limit;
  message_rate = option_or (message_rate_in setting) now.message_rate;
  message_key = unwrap_or (option_map (λ value. number) (message_rate_in setting)) now.message_key;
  connection_rate = option_or (connection_rate_in setting) now.connection_rate;
  connection_key = unwrap_or (option_map (λ value. number) (connection_rate_in setting)) now.connection_key;
  deliveries = unwrap_or (deliveries_in setting) now.deliveries;
  ready_limit = unwrap_or (ready_limit_in setting) now.ready_limit;
  failures_before_delay = unwrap_or (failures_before_delay_in setting) now.failures_before_delay;
  idle_timeout = option_or (idle_timeout_in setting) now.idle_timeout;
}

-- the same of a rule, which may set none
abbrev pub with_rule : ℕ × Rule → InForce → InForce
with_rule r now = record {
  connection_limit = unwrap_or (set_by connection_limit_in r) now.connection_limit;
  message_rate = option_or (set_by message_rate_in r) now.message_rate;
  message_key = unwrap_or (key_by message_rate_in r) now.message_key;
  connection_rate = option_or (set_by connection_rate_in r) now.connection_rate;
  connection_key = unwrap_or (key_by connection_rate_in r) now.connection_key;
  deliveries = unwrap_or (set_by deliveries_in r) now.deliveries;
  ready_limit = unwrap_or (set_by ready_limit_in r) now.ready_limit;
  failures_before_delay = unwrap_or (set_by failures_before_delay_in r) now.failures_before_delay;
  idle_timeout = option_or (set_by idle_timeout_in r) now.idle_timeout;
}

-- and of rules, each over those before it
abbrev pub with_rules : List (ℕ × Rule) → InForce → InForce
with_rules [] now = now
with_rules (r ∷ rules) now = with_rules rules (with_rule r now)
