-- The tables of a shaping file: the one for all, those of providers, those of domains, in each those of its sources, and in
-- all these the lists of rules.
use Rattle.std.specs.Prelude.{ℕ, ◌+◌, List, [], ◌∷◌, ◌++◌, bytes_eq, codes, if◌then◌else◌}
use Rattle.std.specs.List.{flat_map}
use Rattle.toml.specs.Data.{Data, Items, no_items, item, Members, get_member, as_table, as_array}
use Rattle.policy_fault.specs.TableNames.{joined}
use Rattle.policy_toml.specs.Walks.{over_members, on_table, members_at}
use Rattle.shaping_policy.specs.declared.tables.TableKind.{TableKind}
use Rattle.shaping_policy.specs.declared.tables.TableKind.TheVariants.{Default, Provider, Domain, Source}
use Rattle.shaping_policy.specs.RuleValues.{on_items}
use Rattle.std.specs.Prelude.{option_and_then}

-- a table with what it is for, its keys joined, the last of them, and its members
pub record PlacedTable : Type 0 where
  pub kind : TableKind
  pub place : List ℕ
  pub name : List ℕ
  pub members : Members

abbrev pub placed : TableKind → List ℕ → List ℕ → Members → PlacedTable
placed kind place name ms = record { kind = kind; place = place; name = name; members = ms }

-- the tables of the sources within a table
unfoldable pub source_at : List ℕ → List ℕ → Data → List PlacedTable
source_at place name d = on_table (λ ms. placed Source (joined place name) name ms ∷ []) [] (as_table d)

-- a table and those of its sources
abbrev pub with_sources : TableKind → List ℕ → List ℕ → Members → List PlacedTable
with_sources kind place name ms =
    placed kind place name ms ∷ over_members (source_at (joined place (codes "sources"))) (members_at (codes "sources") ms)

unfoldable pub provider_tables_at : List ℕ → Data → List PlacedTable
provider_tables_at name d = on_table (with_sources Provider (joined (codes "provider") name) name) [] (as_table d)

-- the tables at a key of the document. Any other key than these two is a domain
unfoldable pub tables_at : List ℕ → Data → List PlacedTable
tables_at key d =
    if bytes_eq key (codes "default") then on_table (with_sources Default key key) [] (as_table d)
    else (if bytes_eq key (codes "provider") then on_table (over_members provider_tables_at) [] (as_table d)
    else on_table (with_sources Domain key key) [] (as_table d))

unfoldable pub tables_in : Members → List PlacedTable
tables_in document = over_members tables_at document

-- the table of a rule: the keys of its list joined, its number there, and its members
pub record PlacedRule : Type 0 where
  pub place : List ℕ
  pub number : ℕ
  pub members : Members

unfoldable pub rule_at : List ℕ → ℕ → Data → List PlacedRule
rule_at place n d = on_table (λ ms. record { place = place; number = n; members = ms } ∷ []) [] (as_table d)

abbrev pub rules_from : List ℕ → ℕ → Items → List PlacedRule
rules_from place n no_items = []
rules_from place n (item d ds) = rule_at place n d ++ rules_from place (n + 1) ds

-- the list of a table, where it is one
abbrev pub list_at : List ℕ → Members → Items
list_at key ms = on_items (λ ds. ds) no_items (option_and_then as_array (get_member key ms))

-- the tables of rules in a table
unfoldable pub rules_of : PlacedTable → List PlacedRule
rules_of t = rules_from (joined t.place (codes "automation")) 1 (list_at (codes "automation") t.members)

abbrev pub rules_in : List PlacedTable → List PlacedRule
rules_in tables = flat_map rules_of tables
