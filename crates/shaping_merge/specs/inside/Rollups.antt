-- Which domains share their sites, in a map by their names.
use Rattle.std.specs.Prelude.{◌≡◌, ℕ, List, [], ◌∷◌, Bool, true, Option, Some, None, find, bytes_eq, option_map, unwrap_or, String}
use Rattle.std.specs.List.{filter}
use Rattle.std.specs.Option.{option_or}
use Rattle.std.specs.BTreeMap.{BTreeMap, get_by_text}
use Rattle.policy_core.specs.declared.shaping.DomainShape.{DomainShape}
use Rattle.policy_core.specs.declared.site.Site.{Site}
use Rattle.policy_core.specs.Policy.{Policy}
use Rattle.policy_core.specs.Site.{is_at_site}

-- what the first table of a domain says
abbrev pub rollup_in : List DomainShape → List ℕ → Option Bool
rollup_in domains name = option_map (λ d. d.rollup) (find (λ d. bytes_eq d.domain name) domains)

-- a map has that for each name
abbrev pub AreRollups : {Y : Type 0} → BTreeMap (String Y) Bool → List DomainShape → Type 0
AreRollups rollups domains = (name : List ℕ) → get_by_text rollups name ≡ rollup_in domains name

-- what it has once a table is added
abbrev pub with_shape : Option Bool → DomainShape → List ℕ → Option Bool
with_shape met shape name = option_or met (rollup_in (shape ∷ []) name)

-- a domain without a table shares its site
abbrev pub rollup_at : Option Bool → Bool
rollup_at met = unwrap_or met true

-- a table that is added counts where there was none of its domain, and its domain is at the site
abbrev pub kept_shape : Policy → Site → Option Bool → DomainShape → List DomainShape
kept_shape policy site (Some rollup) shape = []
kept_shape policy site None shape = filter (λ d. is_at_site policy site d.domain) (shape ∷ [])
