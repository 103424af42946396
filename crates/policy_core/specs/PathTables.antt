-- What the shaping tables of a path come to. A path is a source and a site.
use Rattle.std.specs.Prelude.{ℕ, ◌-◌, List, [], ◌∷◌, ◌++◌, length, drop, Bool, false, ◌||◌, if◌then◌else◌, map, find, bytes_eq, option_map, option_to_list, codes}
use Rattle.std.specs.List.{list_all, list_any, filter, flat_map}
use Rattle.policy_core.specs.declared.shaping.ShapeTable.{ShapeTable}
use Rattle.policy_core.specs.declared.shaping.Provider.{Provider}
use Rattle.policy_core.specs.declared.shaping.Match.{Match}
use Rattle.policy_core.specs.declared.shaping.Match.TheVariants as kind
use Rattle.policy_core.specs.declared.site.Site.{Site}
use Rattle.policy_core.specs.declared.site.PathBase.{PathBase}
use Rattle.policy_core.specs.PathOptions.{options_in}
use Rattle.policy_core.specs.Policy.{Policy}
use Rattle.policy_core.specs.Site.{is_at_site, domains_of}

-- a text ends with another
abbrev pub ends_with : List ℕ → List ℕ → Bool
ends_with suffix text = bytes_eq suffix (drop (length text - length suffix) text)

-- of items with equal names the first
abbrev pub firsts_but : {A : Type 0} → (A → List ℕ) → (List ℕ → Bool) → List A → List A
firsts_but name_of met [] = []
firsts_but name_of met (item ∷ more) =
    if met (name_of item) then firsts_but name_of met more
    else item ∷ firsts_but name_of (λ name. bytes_eq (name_of item) name || met name) more

abbrev pub firsts : {A : Type 0} → (A → List ℕ) → List A → List A
firsts name_of items = firsts_but name_of (λ name. false) items

-- a match that says that a site is the provider's: of hosts each one has to end so, of domains one
abbrev pub matches_site : Policy → Site → Match → Bool
matches_site policy site (kind.MxSuffix suffix) = list_all (ends_with suffix) site.hosts
matches_site policy site (kind.DomainSuffix suffix) = list_any (ends_with suffix) (domains_of policy site)

unfoldable pub is_provider_of : Policy → Site → Provider → Bool
is_provider_of policy site p = list_any (matches_site policy site) p.matches

-- the tables for a site, the later over the earlier: the one for all, those of its providers, those of its domains
unfoldable pub tables_for : Policy → Site → List ShapeTable
tables_for policy site =
    policy.shaping.base
    ∷ (map (λ p. p.table) (filter (is_provider_of policy site) (firsts (λ p. p.name) policy.shaping.providers))
    ++ map (λ d. d.table) (filter (λ d. is_at_site policy site d.domain) (firsts (λ d. d.domain) policy.shaping.domains)))

-- what one table says
abbrev pub table_layer : ShapeTable → PathBase
table_layer shape = record { options = shape.options; rules = shape.rules }

-- and what it says for a source alone; of equal names the first counts
abbrev pub source_layers : List ℕ → ShapeTable → List PathBase
source_layers source shape =
    option_to_list (option_map (λ s. record { options = s.options; rules = s.rules }) (find (λ s. bytes_eq s.source source) shape.sources))

-- the layers of a path: the tables for its site, and behind them all what these say for its source, in the same order
abbrev pub layers_for : List ShapeTable → List ℕ → List PathBase
layers_for tables source = map table_layer tables ++ flat_map (source_layers source) tables

-- layers laid over each other: of an option the last that sets it counts, and rules stand one behind another
abbrev pub merged : List PathBase → PathBase
merged layers = record {
  options = options_in (map (λ layer. layer.options) layers);
  rules = flat_map (λ layer. layer.rules) layers;
}

-- what the tables of a path come to
unfoldable pub base_of : Policy → Site → List ℕ → PathBase
base_of policy site source = merged (layers_for (tables_for policy site) source)

-- the text of a path: the source, `->` and the name of the site
abbrev pub path_text : List ℕ → List ℕ → List ℕ
path_text source site = source ++ codes "->" ++ site

abbrev pub path_of : List ℕ → Site → List ℕ
path_of source site = path_text source site.name
