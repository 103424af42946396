-- Rules that set options one after another, and what the last of them says.
use Rattle.std.proofs.Common.{◌≡◌, refl, sym, ◌∙◌, ℕ, List, [], ◌∷◌, Option, Some, None, unwrap_or}
use Rattle.std.specs.Option.{option_or}
use Rattle.policy_core.specs.Layers.{last_set}
use Rattle.policy_core.specs.declared.rules.Rule.{Rule}
use Rattle.policy_core.specs.declared.options.InForce.{InForce}
use Rattle.policy_core.specs.Automation.{set_by, key_by, in_force_by, connection_limit_in, message_rate_in, connection_rate_in, deliveries_in, ready_limit_in, failures_before_delay_in, idle_timeout_in}
use Rattle.automation_rules.specs.inside.Setting.{with_rule, with_rules}

or_assoc : {V : Type 0} (a b c : Option V) → option_or (option_or a b) c ≡ option_or a (option_or b c)
or_assoc None b c = refl
or_assoc (Some x) b c = refl

unwrap_or-or : {V : Type 0} (a b : Option V) (d : V) → unwrap_or (option_or a b) d ≡ unwrap_or a (unwrap_or b d)
unwrap_or-or None b d = refl
unwrap_or-or (Some x) b d = refl

-- of each option what the last of rules says, else what was in force
abbrev over : List (ℕ × Rule) → InForce → InForce
over rules base = record {
  connection_limit = unwrap_or (last_set rules (set_by connection_limit_in)) base.connection_limit;
  message_rate = option_or (last_set rules (set_by message_rate_in)) base.message_rate;
  message_key = unwrap_or (last_set rules (key_by message_rate_in)) base.message_key;
  connection_rate = option_or (last_set rules (set_by connection_rate_in)) base.connection_rate;
  connection_key = unwrap_or (last_set rules (key_by connection_rate_in)) base.connection_key;
  deliveries = unwrap_or (last_set rules (set_by deliveries_in)) base.deliveries;
  ready_limit = unwrap_or (last_set rules (set_by ready_limit_in)) base.ready_limit;
  failures_before_delay = unwrap_or (last_set rules (set_by failures_before_delay_in)) base.failures_before_delay;
  idle_timeout = option_or (last_set rules (set_by idle_timeout_in)) base.idle_timeout;
}

over_first : (r : ℕ × Rule) (rules : List (ℕ × Rule)) (now : InForce) → over rules (with_rule r now) ≡ over (r ∷ rules) now
over_first r rules now = sym
    (rw (
      unwrap_or-or (last_set rules (set_by connection_limit_in)) (set_by connection_limit_in r) now.connection_limit,
      or_assoc (last_set rules (set_by message_rate_in)) (set_by message_rate_in r) now.message_rate,
      unwrap_or-or (last_set rules (key_by message_rate_in)) (key_by message_rate_in r) now.message_key,
      or_assoc (last_set rules (set_by connection_rate_in)) (set_by connection_rate_in r) now.connection_rate,
      unwrap_or-or (last_set rules (key_by connection_rate_in)) (key_by connection_rate_in r) now.connection_key,
      unwrap_or-or (last_set rules (set_by deliveries_in)) (set_by deliveries_in r) now.deliveries,
      unwrap_or-or (last_set rules (set_by ready_limit_in)) (set_by ready_limit_in r) now.ready_limit,
      unwrap_or-or (last_set rules (set_by failures_before_delay_in)) (set_by failures_before_delay_in r) now.failures_before_delay,
      or_assoc (last_set rules (set_by idle_timeout_in)) (set_by idle_timeout_in r) now.idle_timeout,
    )
    refl)

with_rules-over : (rules : List (ℕ × Rule)) (now : InForce) → with_rules rules now ≡ over rules now
with_rules-over [] now = refl
with_rules-over (r ∷ rules) now = with_rules-over rules (with_rule r now) ∙ over_first r rules now

-- where no rule set a rate before
pub with_rules-in_force : (rules : List (ℕ × Rule)) (now : InForce) → now.message_key ≡ 0 → now.connection_key ≡ 0
    → with_rules rules now ≡ in_force_by rules now
with_rules-in_force rules now message connection = with_rules-over rules now ∙ keyed where
  keyed : over rules now ≡ in_force_by rules now
  keyed = rw (message, connection) refl
