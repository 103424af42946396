-- A policy as it is assembled, and what holds of its parts together.
use Rattle.std.specs.Prelude.{◌≡◌, ℕ, nat_le, nat_lt, List, [], ◌∷◌, ◌++◌, Bool, false, not, ◌&&◌, ◌||◌, Option, Some, None, is_some, option_map, if◌then◌else◌, map, bytes_eq, codes, IsTrue, ⊤}
use Rattle.std.specs.List.{list_all, list_any, filter, flat_map}
use Rattle.queue_name.specs.QueueName.{Name}
use Rattle.kumo_base.specs.Limits.{latest_moment}
use Rattle.policy_core.specs.Limits.{unspecified}
use Rattle.policy_core.specs.declared.settings.Layer.{Layer}
use Rattle.policy_core.specs.declared.queues.NamedLayer.{NamedLayer}
use Rattle.policy_core.specs.declared.queues.TenantQueues.{TenantQueues}
use Rattle.policy_core.specs.declared.queues.DomainQueues.{DomainQueues}
use Rattle.policy_core.specs.declared.queues.Queues.{Queues}
use Rattle.policy_core.specs.declared.sources.Sources.{Sources}
use Rattle.policy_core.specs.declared.shaping.Shaping.{Shaping}
use Rattle.policy_core.specs.declared.mx.MxRow.{MxRow}
use Rattle.policy_fault.specs.declared.fault.PolicyFault.{PolicyFault}
use Rattle.policy_fault.specs.declared.fault.PolicyFault.TheVariants as policy_fault
use Rattle.policy_fault.specs.declared.fault.PolicyFile.TheVariants as file
use Rattle.policy_fault.specs.declared.fault.PolicyPlace.{PolicyPlace}
use Rattle.policy_fault.specs.declared.fault.Why.TheVariants.{UnknownPool}
use Rattle.policy_fault.specs.TableNames.{joined}
use Rattle.policy_core.specs.Layers.{settings_of}
use Rattle.policy_core.specs.Names.{is_source_name}
use Rattle.policy_core.specs.Mx.{comes_before, are_hosts_named}

-- the moments at which a run stops, the last of them the horizon: there is one, each is later than the one before it, and none
-- is later than the latest moment
abbrev pub ascend_from : ℕ → List ℕ → Bool
ascend_from stop [] = nat_le stop latest_moment
ascend_from stop (next ∷ more) = nat_lt stop next && ascend_from next more

unfoldable pub are_stops : List ℕ → Bool
are_stops [] = false
are_stops (stop ∷ more) = ascend_from stop more

abbrev pub has_pool : Sources → List ℕ → Bool
has_pool sources name = list_any (λ pool. bytes_eq pool.name name) sources.pools

abbrev pub has_source : Sources → List ℕ → Bool
has_source sources name = list_any (λ source. bytes_eq source.name name) sources.sources

-- each entrant of each pool names a source
unfoldable pub are_entrants_sources : Sources → Bool
are_entrants_sources sources = list_all (λ pool. list_all (λ entrant. has_source sources entrant.source) pool.entrants) sources.pools

unfoldable pub are_sources_named : Sources → Bool
are_sources_named sources = list_all (λ source. is_source_name source.name) sources.sources

-- queues whose layers name no pool have one as well
unfoldable pub has_base_pool : Sources → Queues → Bool
has_base_pool sources queues = is_some queues.base.pool || has_pool sources unspecified

-- every queue's pool is there
unfoldable pub IsServed : Sources → Queues → Type 0
IsServed sources queues = (name : Name) → IsTrue (has_pool sources (settings_of queues name).pool)

pub record Policy : Type 0 where
  pub sources : Sources
  pub queues : Queues
  pub shaping : Shaping
  pub mx : List MxRow
  pub stops : List ℕ

-- what holds of the parts of a policy together
pub record IsPolicy (policy : Policy) : Type 0 where
  pub stops_are : IsTrue (are_stops policy.stops)
  pub served : IsServed policy.sources policy.queues
  pub entrants_are : IsTrue (are_entrants_sources policy.sources)
  pub sources_named : IsTrue (are_sources_named policy.sources)
  pub hosts_named : IsTrue (are_hosts_named policy.mx)

-- a layer and the name of the table that it stands in
pub record PlacedLayer : Type 0 where
  pub place : List ℕ
  pub layer : Layer

abbrev pub layer_in_place : List ℕ → NamedLayer → PlacedLayer
layer_in_place place named = record { place = joined place named.name; layer = named.layer }

abbrev pub layers_of_tenant : List ℕ → TenantQueues → List PlacedLayer
layers_of_tenant place t =
    record { place = joined place t.tenant; layer = t.base } ∷ map (layer_in_place (joined place t.tenant)) t.campaigns

abbrev pub layers_of_domain : DomainQueues → List PlacedLayer
layers_of_domain d =
    let place = joined (codes "queue") d.domain in
    record { place = place; layer = d.base } ∷ flat_map (layers_of_tenant place) d.tenants

-- all layers: for all queues, for tenants, and for domains with all within
abbrev pub all_layers : Queues → List PlacedLayer
all_layers queues =
    record { place = codes "queue.default"; layer = queues.base }
    ∷ (map (layer_in_place (codes "tenant")) queues.tenants ++ flat_map layers_of_domain queues.domains)

-- a layer that names a pool that is not there
abbrev pub lacks_pool : Sources → Option (List ℕ) → Bool
lacks_pool sources None = false
lacks_pool sources (Some pool) = not (has_pool sources pool)

-- the first in byte order of a text that may be there and of others
abbrev pub earlier_text : Option (List ℕ) → List ℕ → List ℕ
earlier_text None text = text
earlier_text (Some best) text = if comes_before text best then text else best

abbrev pub least_text : Option (List ℕ) → List (List ℕ) → Option (List ℕ)
least_text best [] = best
least_text best (text ∷ more) = least_text (Some (earlier_text best text)) more

-- the places of layers that name a pool that is not there
abbrev pub places_of_unknown : Sources → List PlacedLayer → List (List ℕ)
places_of_unknown sources layers = map (λ l. l.place) (filter (λ l. lacks_pool sources l.layer.pool) layers)

-- the first such table by name
unfoldable pub unknown_pool : Sources → Queues → Option (List ℕ)
unknown_pool sources queues = least_text None (places_of_unknown sources (all_layers queues))

-- where a pool that is not there is refused, by the name of the table
abbrev pub unknown_pool_at : List ℕ → PolicyPlace
unknown_pool_at table = record { file = file.Queues; table = table; key = codes "egress_pool"; why = UnknownPool }

-- a refusal other than for memory is at that table
abbrev pub IsUnknownPool : PolicyFault → Option (List ℕ) → Type 0
IsUnknownPool (policy_fault.At place) unknown = option_map unknown_pool_at unknown ≡ Some place
IsUnknownPool policy_fault.Memory unknown = ⊤
IsUnknownPool policy_fault.Search unknown = ⊥
