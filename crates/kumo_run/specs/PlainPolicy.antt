-- The policy of a run that is given no policy text: one source, and nothing set of queues and of paths. It is what the readers of
-- policy texts give for four empty texts, with no mail exchanger and no stop before the latest moment.
use Rattle.std.specs.Prelude.{[], ◌∷◌, None}
use Rattle.kumo_base.specs.Limits.{latest_moment}
use Rattle.policy_core.specs.Limits.{unspecified, localhost}
use Rattle.policy_core.specs.PathOptions.{no_options}
use Rattle.policy_core.specs.Policy.{Policy}
use Rattle.policy_core.specs.declared.queues.Queues.{Queues}
use Rattle.policy_core.specs.declared.settings.Layer.{Layer}
use Rattle.policy_core.specs.declared.shaping.Shaping.{Shaping}
use Rattle.policy_core.specs.declared.shaping.ShapeTable.{ShapeTable}
use Rattle.policy_core.specs.declared.sources.Sources.{Sources}

-- the source that is always there, and the pool of it alone
abbrev pub plain_sources : Sources
plain_sources = record {
  sources = record { name = unspecified; ehlo = localhost } ∷ [];
  pools = record { name = unspecified; entrants = record { source = unspecified; weight = 1 } ∷ [] } ∷ [];
}

abbrev pub no_layer : Layer
no_layer = record { max_age = None; retry_interval = None; max_retry_interval = None; pool = None }

abbrev pub plain_queues : Queues
plain_queues = record { base = no_layer; tenants = []; domains = [] }

abbrev pub no_table : ShapeTable
no_table = record { options = no_options; rules = []; sources = [] }

abbrev pub plain_shaping : Shaping
plain_shaping = record { base = no_table; providers = []; domains = [] }

abbrev pub plain_policy : Policy
plain_policy = record {
  sources = plain_sources;
  queues = plain_queues;
  shaping = plain_shaping;
  mx = [];
  stops = latest_moment ∷ [];
}
