-- What a queues file gives, and its faults: the tables `tenant` and `queue` (KumoMTA's manual, the queues helper).
use Rattle.std.specs.Prelude.{ℕ, ◌==◌, List, [], ◌∷◌, ◌++◌, Bool, not, ◌&&◌, ◌||◌, Option, None, Result, Ok, Err, bytes_eq, codes, if◌then◌else◌}
use Rattle.std.specs.Str.{str_to_ascii_lowercase}
use Rattle.queue_name.specs.Components.{is_domain_of_some_name, is_tenant_of_some_name, is_campaign_of_some_name}
use Rattle.toml.specs.Data.{Data, Members, no_members, member, as_table, get_member}
use Rattle.policy_fault.specs.declared.fault.Why.{Why}
use Rattle.policy_fault.specs.declared.fault.Why.TheVariants.{BadType, BadName, Zero}
use Rattle.policy_fault.specs.declared.fault.PolicyFile.TheVariants as file
use Rattle.policy_fault.specs.declared.fault.Ignored.{Ignored}
use Rattle.policy_core.specs.declared.settings.Layer.{Layer}
use Rattle.policy_core.specs.declared.queues.NamedLayer.{NamedLayer}
use Rattle.policy_core.specs.declared.queues.TenantQueues.{TenantQueues}
use Rattle.policy_core.specs.declared.queues.DomainQueues.{DomainQueues}
use Rattle.policy_core.specs.declared.queues.Queues.{Queues}
use Rattle.policy_toml.specs.declared.fault.Fault.{Fault}
use Rattle.policy_fault.specs.TableNames.{joined}
use Rattle.policy_toml.specs.Places.{fault, whole_table, ignored_at}
use Rattle.policy_toml.specs.Values.{text_in, duration_at, document_in}
use Rattle.policy_toml.specs.Walks.{over_members, on_table, is_table, members_at, faults_unless_table, faults_of_value, value_at}
use Rattle.policy_toml.specs.Domains.{none_met, faults_of_twice}
use Rattle.policy_toml.specs.Order.{with_named}
use Rattle.policy_toml.specs.Reports.{reading}

-- the four settings of a layer
abbrev pub is_interval_key : List ℕ → Bool
is_interval_key key = bytes_eq key (codes "retry_interval") || bytes_eq key (codes "max_retry_interval")

abbrev pub is_setting : List ℕ → Bool
is_setting key = bytes_eq key (codes "egress_pool") || bytes_eq key (codes "max_age") || is_interval_key key

abbrev pub unless_zero : Result ℕ Why → Result ℕ Why
unless_zero (Err why) = Err why
unless_zero (Ok milliseconds) = if milliseconds == 0 then Err Zero else Ok milliseconds

abbrev pub interval_at : Data → Result ℕ Why
interval_at d = unless_zero (duration_at d)

unfoldable pub layer_of : Members → Layer
layer_of ms = record {
  max_age = value_at duration_at (codes "max_age") ms;
  retry_interval = value_at interval_at (codes "retry_interval") ms;
  max_retry_interval = value_at interval_at (codes "max_retry_interval") ms;
  pool = value_at text_in (codes "egress_pool") ms;
}

unfoldable pub faults_of_setting : List ℕ → List ℕ → Data → List Fault
faults_of_setting place key d =
    if bytes_eq key (codes "egress_pool") then faults_of_value place key (text_in d)
    else (if bytes_eq key (codes "max_age") then faults_of_value place key (duration_at d)
    else faults_of_value place key (interval_at d))

abbrev pub faults_of_name : Bool → List ℕ → List Fault
faults_of_name is_good place = if is_good then [] else fault place whole_table BadName ∷ []

-- a table with the settings of one layer: all its other keys have no effect
unfoldable pub faults_at_plain_key : List ℕ → List ℕ → Data → List Fault
faults_at_plain_key place key d = if is_setting key then faults_of_setting place key d else []

abbrev pub ignored_at_plain_key : List ℕ → List ℕ → Data → List Ignored
ignored_at_plain_key place key d = if is_setting key then [] else ignored_at file.Queues place key ∷ []

-- a table with tables of its own, each at a key that is no setting: its other keys have no effect
abbrev pub faults_at_outer_key : (List ℕ → List ℕ → Members → List Fault) → List ℕ → List ℕ → Data → List Fault
faults_at_outer_key inner place key d =
    if is_setting key then faults_of_setting place key d else on_table (inner (joined place key) key) [] (as_table d)

abbrev pub ignored_at_outer_key : (List ℕ → Members → List Ignored) → List ℕ → List ℕ → Data → List Ignored
ignored_at_outer_key inner place key d =
    if is_setting key then [] else on_table (inner (joined place key)) (ignored_at file.Queues place key ∷ []) (as_table d)

-- the table at a key that is no setting
abbrev pub inner_table : List ℕ → Data → Option Members
inner_table key d = if is_setting key then None else as_table d

-- `queue`, a domain, a tenant and a campaign
abbrev pub named_layer : List ℕ → Members → NamedLayer
named_layer name ms = record { name = name; layer = layer_of ms }

unfoldable pub faults_in_campaign : List ℕ → List ℕ → Members → List Fault
faults_in_campaign place name ms = faults_of_name (is_campaign_of_some_name name) place ++ over_members (faults_at_plain_key place) ms

abbrev pub ignored_in_plain : List ℕ → Members → List Ignored
ignored_in_plain place ms = over_members (ignored_at_plain_key place) ms

-- `queue`, a domain and a tenant
abbrev pub campaign_at : List ℕ → Data → List NamedLayer
campaign_at key d = on_table (λ t. named_layer key t ∷ []) [] (inner_table key d)

abbrev pub tenant_queues : List ℕ → Members → TenantQueues
tenant_queues name ms = record { tenant = name; base = layer_of ms; campaigns = over_members campaign_at ms }

unfoldable pub faults_at_tenant_key : List ℕ → List ℕ → Data → List Fault
faults_at_tenant_key place key d = faults_at_outer_key faults_in_campaign place key d

unfoldable pub faults_in_tenant_queues : List ℕ → List ℕ → Members → List Fault
faults_in_tenant_queues place name ms =
    faults_of_name (is_tenant_of_some_name name) place ++ over_members (faults_at_tenant_key place) ms

unfoldable pub ignored_at_tenant_key : List ℕ → List ℕ → Data → List Ignored
ignored_at_tenant_key place key d = ignored_at_outer_key ignored_in_plain place key d

abbrev pub ignored_in_tenant_queues : List ℕ → Members → List Ignored
ignored_in_tenant_queues place ms = over_members (ignored_at_tenant_key place) ms

-- `queue` and a domain, which counts in lower case
abbrev pub tenant_at : List ℕ → Data → List TenantQueues
tenant_at key d = on_table (λ t. tenant_queues key t ∷ []) [] (inner_table key d)

abbrev pub domain_queues : List ℕ → Members → DomainQueues
domain_queues key ms = record {
  domain = str_to_ascii_lowercase key;
  base = layer_of ms;
  tenants = over_members tenant_at ms;
}

unfoldable pub faults_at_domain_key : List ℕ → List ℕ → Data → List Fault
faults_at_domain_key place key d = faults_at_outer_key faults_in_tenant_queues place key d

unfoldable pub faults_in_domain_queues : List ℕ → List ℕ → Members → List Fault
faults_in_domain_queues place key ms =
    faults_of_name (is_domain_of_some_name (str_to_ascii_lowercase key)) place ++ over_members (faults_at_domain_key place) ms

unfoldable pub ignored_at_domain_key : List ℕ → List ℕ → Data → List Ignored
ignored_at_domain_key place key d = ignored_at_outer_key ignored_in_tenant_queues place key d

abbrev pub ignored_in_domain_queues : List ℕ → Members → List Ignored
ignored_in_domain_queues place ms = over_members (ignored_at_domain_key place) ms

-- the table `queue`: `default`, spelled so, and domains
abbrev pub is_default : List ℕ → Bool
is_default key = bytes_eq key (codes "default")

abbrev pub faults_in_queue : List ℕ → List ℕ → Members → List Fault
faults_in_queue place key ms =
    if is_default key then over_members (faults_at_plain_key place) ms else faults_in_domain_queues place key ms

unfoldable pub faults_of_queue : List ℕ → Data → List Fault
faults_of_queue key d =
    on_table (faults_in_queue (joined (codes "queue") key) key) (fault (codes "queue") key BadType ∷ []) (as_table d)

abbrev pub ignored_in_queue : List ℕ → List ℕ → Members → List Ignored
ignored_in_queue place key ms = if is_default key then ignored_in_plain place ms else ignored_in_domain_queues place ms

unfoldable pub ignored_of_queue : List ℕ → Data → List Ignored
ignored_of_queue key d = on_table (ignored_in_queue (joined (codes "queue") key) key) [] (as_table d)

-- the tables of domains
abbrev pub is_domain_table : List ℕ → Data → Bool
is_domain_table key d = not (is_default key) && is_table d

-- domains in the order of their names; a file lists them by their names as it spells them
unfoldable pub with_domain_at : List DomainQueues → List ℕ → Data → List DomainQueues
with_domain_at done key d = if is_default key then done else on_table (λ t. with_named (λ q. q.domain) (domain_queues key t) done) done (as_table d)

abbrev pub with_domains : List DomainQueues → Members → List DomainQueues
with_domains done no_members = done
with_domains done (member key d ms) = with_domains (with_domain_at done key d) ms

-- the table `tenant`
abbrev pub faults_in_tenant : List ℕ → List ℕ → Members → List Fault
faults_in_tenant place name ms = faults_of_name (is_tenant_of_some_name name) place ++ over_members (faults_at_plain_key place) ms

unfoldable pub faults_of_tenant : List ℕ → Data → List Fault
faults_of_tenant name d =
    on_table (faults_in_tenant (joined (codes "tenant") name) name) (fault (codes "tenant") name BadType ∷ []) (as_table d)

unfoldable pub ignored_of_tenant : List ℕ → Data → List Ignored
ignored_of_tenant name d = on_table (ignored_in_plain (joined (codes "tenant") name)) [] (as_table d)

abbrev pub tenant_layer_at : List ℕ → Data → List NamedLayer
tenant_layer_at name d = on_table (λ t. named_layer name t ∷ []) [] (as_table d)

-- the document
unfoldable pub faults_in : Members → List Fault
faults_in ms =
    faults_unless_table [] (codes "tenant") (get_member (codes "tenant") ms)
    ++ (faults_unless_table [] (codes "queue") (get_member (codes "queue") ms)
    ++ (over_members faults_of_tenant (members_at (codes "tenant") ms)
    ++ (over_members faults_of_queue (members_at (codes "queue") ms)
    ++ faults_of_twice is_domain_table (codes "queue") none_met (members_at (codes "queue") ms))))

abbrev pub ignored_at_top : List ℕ → Data → List Ignored
ignored_at_top key d =
    if bytes_eq key (codes "tenant") || bytes_eq key (codes "queue") then [] else ignored_at file.Queues [] key ∷ []

unfoldable pub ignored_in : Members → List Ignored
ignored_in ms =
    over_members ignored_at_top ms
    ++ (over_members ignored_of_tenant (members_at (codes "tenant") ms)
    ++ over_members ignored_of_queue (members_at (codes "queue") ms))

unfoldable pub queues_in : Members → Queues
queues_in ms = record {
  base = layer_of (members_at (codes "default") (members_at (codes "queue") ms));
  tenants = over_members tenant_layer_at (members_at (codes "tenant") ms);
  domains = with_domains [] (members_at (codes "queue") ms);
}

-- what the file reads as
pub record QueuesFile : Type 0 where
  pub queues : Queues
  pub ignored : List Ignored

abbrev pub file_of : Members → QueuesFile
file_of ms = record { queues = queues_in ms; ignored = ignored_in ms }

unfoldable pub queues_file : List ℕ → Result QueuesFile Fault
queues_file text = reading faults_in file_of (document_in text)
