-- The walk over the layers of all queues that looks for pools that are not there.
use Rattle.std.specs.Prelude.{ℕ, List, codes}
use Rattle.policy_core.specs.declared.settings.Layer.{Layer}
use Rattle.policy_core.specs.declared.pools.Above.{Above}
use Rattle.policy_core.specs.declared.pools.Above.TheVariants as above
use Rattle.policy_core.specs.declared.pools.PoolCheck.{PoolCheck}
use Rattle.policy_fault.specs.TableNames.{joined}
use Rattle.policy_core.specs.Policy.{PlacedLayer, least_text, places_of_unknown}

abbrev pub name_above : Above → List ℕ
name_above above.Tenants = codes "tenant"
name_above above.Queues = codes "queue"
name_above (above.Domain domain) = joined (codes "queue") domain.now
name_above (above.Tenant domain tenant) = joined (joined (codes "queue") domain.now) tenant.now

abbrev pub layer_at : Above → List ℕ → Layer → PlacedLayer
layer_at place table layer = record { place = joined (name_above place) table; layer = layer }

-- with further layers
unfoldable pub with_layers : PoolCheck → List PlacedLayer → PoolCheck
with_layers check layers = record check { unknown = least_text check.unknown (places_of_unknown check.sources.now layers) }
