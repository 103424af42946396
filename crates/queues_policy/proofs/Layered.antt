-- Settings of layers that may not be there.
use Rattle.std.proofs.Common.{◌≡◌, List, [], ◌∷◌, ◌++◌, Option, Some, None, refl, sym, ap, append-nil, append_assoc, option_to_list, option_map}
use Rattle.queue_name.specs.QueueName.{Name}
use Rattle.policy_core.specs.Layers.{settings_in, settings_of, queues_of_domain, tenant_layer, domain_layer, domain_tenant_layer, campaign_layer}
use Rattle.policy_core.specs.declared.settings.Layer.{Layer}
use Rattle.policy_core.specs.declared.settings.Settings.{Settings}
use Rattle.policy_core.specs.declared.queues.TenantQueues.{TenantQueues}
use Rattle.policy_core.specs.declared.queues.DomainQueues.{DomainQueues}
use Rattle.policy_core.specs.declared.queues.Queues.{Queues}
use Rattle.policy_core.proofs.LayerLemmas.{settings_in-push}
use Rattle.queues_policy.specs.inside.LaidSettings.{over, tenant_within, campaign_within}

settings_in-over : (layers : List Layer) (layer : Option Layer) → settings_in (layers ++ option_to_list layer) ≡ over (settings_in layers) layer
settings_in-over layers None = rw append-nil refl
settings_in-over layers (Some layer) = settings_in-push layers layer

regrouped : (a b c d : List Layer) → a ++ (b ++ (c ++ d)) ≡ ((a ++ b) ++ c) ++ d
regrouped a b c d = rw (append_assoc (a ++ b) c d, append_assoc a b (c ++ d)) refl

-- the layers of a name, each over those before it
pub settings_of_layers : (base : Layer) (a b c d : Option Layer)
    → settings_in (base ∷ (option_to_list a ++ (option_to_list b ++ (option_to_list c ++ option_to_list d))))
    ≡ over (over (over (over (over (settings_in []) (Some base)) a) b) c) d
settings_of_layers base a b c d =
    rw (
      ← settings_in-push [] base,
      ← settings_in-over (base ∷ []) a,
      ← settings_in-over ((base ∷ []) ++ option_to_list a) b,
      ← settings_in-over (((base ∷ []) ++ option_to_list a) ++ option_to_list b) c,
      ← settings_in-over ((((base ∷ []) ++ option_to_list a) ++ option_to_list b) ++ option_to_list c) d,
    )
    (ap (λ (layers : List Layer). settings_in (base ∷ layers)) (regrouped (option_to_list a) (option_to_list b) (option_to_list c) (option_to_list d)))

-- the layers as they were found, laid over one another
pub laid : (queues : Queues) (name : Name) (domain : Option DomainQueues) (there : Option TenantQueues) (a b c d : Option Layer)
    (s0 s1 s2 s3 s4 s5 : Settings)
    → domain ≡ queues_of_domain queues name → there ≡ tenant_within domain name.tenant
    → a ≡ tenant_layer queues name → b ≡ option_map (λ q. q.base) domain
    → c ≡ option_map (λ q. q.base) there → d ≡ campaign_within there name.campaign
    → s0 ≡ settings_in [] → s1 ≡ over s0 (Some queues.base) → s2 ≡ over s1 a → s3 ≡ over s2 b → s4 ≡ over s3 c → s5 ≡ over s4 d
    → s5 ≡ settings_of queues name
unfolding settings_of
laid queues name domain there a b c d s0 s1 s2 s3 s4 s5 is_domain is_there is_a is_b is_c is_d e0 e1 e2 e3 e4 e5 =
    rw (e5, e4, e3, e2, e1, e0, is_d, is_c, is_b, is_a, is_there, is_domain)
    (sym (settings_of_layers queues.base (tenant_layer queues name) (domain_layer queues name) (domain_tenant_layer queues name) (campaign_layer queues name)))
