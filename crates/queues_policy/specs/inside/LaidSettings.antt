-- Settings while layers are laid over one another, with the pool's name where it stands, and the layers within a domain.
use Rattle.std.specs.Prelude.{ℕ, List, Option, Some, None, find, bytes_eq, option_and_then}
use Rattle.policy_core.specs.declared.settings.Layer.{Layer}
use Rattle.policy_core.specs.declared.settings.Settings.{Settings}
use Rattle.policy_core.specs.declared.queues.TenantQueues.{TenantQueues}
use Rattle.policy_core.specs.declared.queues.DomainQueues.{DomainQueues}
use Rattle.policy_core.specs.Layers.{laid_over, layer_named}
use Rattle.queues_policy.specs.declared.settings.LaidSettings.{LaidSettings}

abbrev pub settings_now : LaidSettings → Settings
settings_now f = record {
  max_age = f.max_age;
  retry_interval = f.retry_interval;
  max_retry_interval = f.max_retry_interval;
  pool = f.pool.now;
}

-- with a layer over them, where there is one
abbrev pub over : Settings → Option Layer → Settings
over settings None = settings
over settings (Some layer) = laid_over settings layer

-- the tenant of that name within a domain, and the campaign within a tenant
abbrev pub tenant_within : Option DomainQueues → Option (List ℕ) → Option TenantQueues
tenant_within domain name = option_and_then (λ d. option_and_then (λ tenant. find (λ t. bytes_eq t.tenant tenant) d.tenants) name) domain

abbrev pub campaign_within : Option TenantQueues → Option (List ℕ) → Option Layer
campaign_within tenant campaign = option_and_then (λ t. option_and_then (layer_named t.campaigns) campaign) tenant
