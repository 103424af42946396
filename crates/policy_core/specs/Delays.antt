-- How long a message waits after a failure (KumoMTA's manual, `retry_interval` and `max_retry_interval`): the wait doubles with
-- each failure, up to a bound where there is one.
use Rattle.std.specs.Prelude.{ℕ, ◌-◌, ◌*◌, ◌^◌, min, Option, Some, None}
use Rattle.kumo_base.specs.Moment.{clamped}
use Rattle.policy_core.specs.declared.settings.Settings.{Settings}

abbrev pub at_most : Option ℕ → ℕ → ℕ
at_most None wait = wait
at_most (Some bound) wait = min wait bound

-- the wait after the n-th failure, in milliseconds
unfoldable pub delay_after : Settings → ℕ → ℕ
delay_after settings n = clamped (at_most settings.max_retry_interval (settings.retry_interval * 2 ^ (n - 1)))
