-- A layer over others.
use Rattle.std.proofs.Common.{◌≡◌, List, [], ◌∷◌, ◌++◌, Option, Some, None, unwrap_or, refl, ap, ◌∙◌}
use Rattle.std.specs.Option.{option_or}
use Rattle.policy_core.specs.Layers.{last_set, value_in, settings_in, laid_over}
use Rattle.policy_core.specs.PathOptions.{options_in, options_over}
use Rattle.policy_core.specs.declared.settings.Layer.{Layer}
use Rattle.policy_core.specs.declared.options.Options.{Options}
use Rattle.policy_core.specs.declared.settings.TheConstants.{DEFAULT_MAX_AGE, DEFAULT_RETRY_INTERVAL, UNSPECIFIED}

or_none : {V : Type 0} (a : Option V) → a ≡ option_or a None
or_none None = refl
or_none (Some x) = refl

or_assoc : {V : Type 0} (a b c : Option V) → option_or (option_or a b) c ≡ option_or a (option_or b c)
or_assoc None b c = refl
or_assoc (Some x) b c = refl

unwrap_or-or : {V : Type 0} (a b : Option V) (d : V) → unwrap_or (option_or a b) d ≡ unwrap_or a (unwrap_or b d)
unwrap_or-or None b d = refl
unwrap_or-or (Some x) b d = refl

pub last_set-push : {L V : Type 0} (option : L → Option V) (layers : List L) (layer : L)
    → last_set (layers ++ layer ∷ []) option ≡ option_or (option layer) (last_set layers option)
last_set-push option [] layer = or_none (option layer)
last_set-push option (first ∷ later) layer =
    ap (λ o. option_or o (option first)) (last_set-push option later layer) ∙ or_assoc (option layer) (last_set later option) (option first)

pub value_in-push : {L V : Type 0} (option : L → Option V) (layers : List L) (layer : L) (default : V)
    → value_in (layers ++ layer ∷ []) option default ≡ unwrap_or (option layer) (value_in layers option default)
value_in-push option layers layer default =
    ap (λ o. unwrap_or o default) (last_set-push option layers layer) ∙ unwrap_or-or (option layer) (last_set layers option) default

pub settings_in-push : (layers : List Layer) (layer : Layer) → settings_in (layers ++ layer ∷ []) ≡ laid_over (settings_in layers) layer
settings_in-push layers layer =
    rw (value_in-push (λ l. l.max_age) layers layer DEFAULT_MAX_AGE, value_in-push (λ l. l.retry_interval) layers layer DEFAULT_RETRY_INTERVAL, last_set-push (λ l. l.max_retry_interval) layers layer, value_in-push (λ l. l.pool) layers layer UNSPECIFIED.now) refl

pub options_in-push : (layers : List Options) (layer : Options) → options_in (layers ++ layer ∷ []) ≡ options_over (options_in layers) layer
options_in-push layers layer =
    rw (
      last_set-push (λ o. o.connection_limit) layers layer,
      last_set-push (λ o. o.max_message_rate) layers layer,
      last_set-push (λ o. o.max_connection_rate) layers layer,
      last_set-push (λ o. o.max_deliveries_per_connection) layers layer,
      last_set-push (λ o. o.max_ready) layers layer,
      last_set-push (λ o. o.failures_before_delay) layers layer,
      last_set-push (λ o. o.idle_timeout) layers layer,
    )
    refl
