-- Settings in layers: what the layers of a queue's name come to (KumoMTA's manual, the queues helper).
use Rattle.std.specs.Prelude.{ℕ, List, [], ◌∷◌, ◌++◌, Option, None, bytes_eq, find, unwrap_or, option_map, option_and_then, option_to_list}
use Rattle.std.specs.Option.{option_or}
use Rattle.queue_name.specs.QueueName.{Name}
use Rattle.policy_core.specs.Limits.{default_max_age, default_retry_interval, unspecified}
use Rattle.policy_core.specs.declared.settings.Layer.{Layer}
use Rattle.policy_core.specs.declared.settings.Settings.{Settings}
use Rattle.policy_core.specs.declared.queues.NamedLayer.{NamedLayer}
use Rattle.policy_core.specs.declared.queues.TenantQueues.{TenantQueues}
use Rattle.policy_core.specs.declared.queues.DomainQueues.{DomainQueues}
use Rattle.policy_core.specs.declared.queues.Queues.{Queues}

-- what the last of the layers that set an option says of it
abbrev pub last_set : {L V : Type 0} → List L → (L → Option V) → Option V
last_set [] option = None
last_set (layer ∷ later) option = option_or (last_set later option) (option layer)

-- that, or the default where none sets it
abbrev pub value_in : {L V : Type 0} → List L → (L → Option V) → V → V
value_in layers option default = unwrap_or (last_set layers option) default

-- what layers come to
abbrev pub settings_in : List Layer → Settings
settings_in layers = record {
  max_age = value_in layers (λ l. l.max_age) default_max_age;
  retry_interval = value_in layers (λ l. l.retry_interval) default_retry_interval;
  max_retry_interval = last_set layers (λ l. l.max_retry_interval);
  pool = value_in layers (λ l. l.pool) unspecified;
}

-- settings with a layer over them
abbrev pub laid_over : Settings → Layer → Settings
laid_over settings layer = record {
  max_age = unwrap_or layer.max_age settings.max_age;
  retry_interval = unwrap_or layer.retry_interval settings.retry_interval;
  max_retry_interval = option_or layer.max_retry_interval settings.max_retry_interval;
  pool = unwrap_or layer.pool settings.pool;
}

-- the first layer of that name
abbrev pub layer_named : List NamedLayer → List ℕ → Option Layer
layer_named layers name = option_map (λ l. l.layer) (find (λ l. bytes_eq l.name name) layers)

-- the layers of the name's domain, and of its tenant there; of equal names the first counts
abbrev pub queues_of_domain : Queues → Name → Option DomainQueues
queues_of_domain queues name = find (λ d. bytes_eq d.domain name.domain) queues.domains

abbrev pub queues_of_tenant : Queues → Name → Option TenantQueues
queues_of_tenant queues name =
    option_and_then (λ d. option_and_then (λ tenant. find (λ t. bytes_eq t.tenant tenant) d.tenants) name.tenant) (queues_of_domain queues name)

abbrev pub tenant_layer : Queues → Name → Option Layer
tenant_layer queues name = option_and_then (layer_named queues.tenants) name.tenant

abbrev pub domain_layer : Queues → Name → Option Layer
domain_layer queues name = option_map (λ d. d.base) (queues_of_domain queues name)

abbrev pub domain_tenant_layer : Queues → Name → Option Layer
domain_tenant_layer queues name = option_map (λ t. t.base) (queues_of_tenant queues name)

abbrev pub campaign_layer : Queues → Name → Option Layer
campaign_layer queues name =
    option_and_then (λ t. option_and_then (layer_named t.campaigns) name.campaign) (queues_of_tenant queues name)

-- the layers of a name, the later over the earlier: for all, for its tenant, for its domain, for its tenant there, for its
-- campaign there
abbrev pub layers_of : Queues → Name → List Layer
layers_of queues name =
    queues.base ∷ (option_to_list (tenant_layer queues name) ++ (option_to_list (domain_layer queues name)
    ++ (option_to_list (domain_tenant_layer queues name) ++ option_to_list (campaign_layer queues name))))

-- the settings of a name
unfoldable pub settings_of : Queues → Name → Settings
settings_of queues name = settings_in (layers_of queues name)
