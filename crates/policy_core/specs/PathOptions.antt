-- The options of a path in layers: what the tables of a shaping file that are for a path come to (KumoMTA's manual, the
-- shaping helper and make_egress_path).
use Rattle.std.specs.Prelude.{List, None, unwrap_or}
use Rattle.std.specs.Option.{option_or}
use Rattle.policy_core.specs.Layers.{last_set}
use Rattle.policy_core.specs.declared.options.Options.{Options}
use Rattle.policy_core.specs.declared.options.InForce.{InForce}
use Rattle.policy_core.specs.Limits.{default_connection_limit, default_max_deliveries, default_max_ready, default_failures_before_delay}

abbrev pub no_options : Options
no_options = record {
  connection_limit = None;
  max_message_rate = None;
  max_connection_rate = None;
  max_deliveries_per_connection = None;
  max_ready = None;
  failures_before_delay = None;
  idle_timeout = None;
}

-- options with others over them
abbrev pub options_over : Options → Options → Options
options_over under over = record {
  connection_limit = option_or over.connection_limit under.connection_limit;
  max_message_rate = option_or over.max_message_rate under.max_message_rate;
  max_connection_rate = option_or over.max_connection_rate under.max_connection_rate;
  max_deliveries_per_connection = option_or over.max_deliveries_per_connection under.max_deliveries_per_connection;
  max_ready = option_or over.max_ready under.max_ready;
  failures_before_delay = option_or over.failures_before_delay under.failures_before_delay;
  idle_timeout = option_or over.idle_timeout under.idle_timeout;
}

-- what layers come to: of each option what the last that sets it says
abbrev pub options_in : List Options → Options
options_in layers = record {
  connection_limit = last_set layers (λ o. o.connection_limit);
  max_message_rate = last_set layers (λ o. o.max_message_rate);
  max_connection_rate = last_set layers (λ o. o.max_connection_rate);
  max_deliveries_per_connection = last_set layers (λ o. o.max_deliveries_per_connection);
  max_ready = last_set layers (λ o. o.max_ready);
  failures_before_delay = last_set layers (λ o. o.failures_before_delay);
  idle_timeout = last_set layers (λ o. o.idle_timeout);
}

-- what is in force where no rule sets an option: the value of the layers, or the default
abbrev pub in_force_of : Options → InForce
in_force_of options = record {
  connection_limit = unwrap_or options.connection_limit default_connection_limit;
  message_rate = options.max_message_rate;
  message_key = 0;
  connection_rate = options.max_connection_rate;
  connection_key = 0;
  deliveries = unwrap_or options.max_deliveries_per_connection default_max_deliveries;
  ready_limit = unwrap_or options.max_ready default_max_ready;
  failures_before_delay = unwrap_or options.failures_before_delay default_failures_before_delay;
  idle_timeout = options.idle_timeout;
}
