-- What a shaping file gives (KumoMTA's manual, the shaping helper).
use Rattle.std.specs.Prelude.{ℕ, List, [], ◌∷◌, ◌++◌, Bool, true, false, ◌&&◌, ◌||◌, Result, is_some, option_and_then, option_to_list, unwrap_or, bytes_eq, codes, if◌then◌else◌, map}
use Rattle.std.specs.List.{flat_map, list_any}
use Rattle.std.specs.Str.{str_to_ascii_lowercase}
use Rattle.toml.specs.Data.{Data, Members, no_members, member, get_member, as_str, as_table, as_bool}
use Rattle.policy_fault.specs.declared.fault.PolicyFile.TheVariants as file
use Rattle.policy_fault.specs.declared.fault.Ignored.{Ignored}
use Rattle.policy_core.specs.declared.rules.Rule.{Rule}
use Rattle.policy_core.specs.declared.rules.Action.{Action}
use Rattle.policy_core.specs.declared.rules.Action.TheVariants as act
use Rattle.policy_core.specs.declared.rules.Trigger.TheVariants as when
use Rattle.policy_core.specs.declared.shaping.SourceTable.{SourceTable}
use Rattle.policy_core.specs.declared.shaping.ShapeTable.{ShapeTable}
use Rattle.policy_core.specs.declared.shaping.DomainShape.{DomainShape}
use Rattle.policy_core.specs.declared.shaping.Match.{Match}
use Rattle.policy_core.specs.declared.shaping.Provider.{Provider}
use Rattle.policy_core.specs.declared.shaping.Shaping.{Shaping}
use Rattle.policy_core.specs.OptionNames.{option_named}
use Rattle.policy_toml.specs.declared.fault.Fault.{Fault}
use Rattle.policy_toml.specs.Places.{ignored_at, numbered}
use Rattle.policy_toml.specs.Values.{document_in}
use Rattle.policy_toml.specs.Walks.{over_members, on_table, members_at, ok_of}
use Rattle.policy_toml.specs.Order.{with_named}
use Rattle.policy_toml.specs.Reports.{reading}
use Rattle.shaping_policy.specs.declared.tables.TableKind.{TableKind}
use Rattle.shaping_policy.specs.declared.tables.TableKind.TheVariants as of_kind
use Rattle.shaping_policy.specs.OptionValues.{options_of}
use Rattle.shaping_policy.specs.RuleValues.{items_at, over_items, action_at, trigger_at, lasting_at}
use Rattle.shaping_policy.specs.Tables.{PlacedTable, PlacedRule, tables_in, rules_in, list_at}
use Rattle.shaping_policy.specs.Faults.{has_sources, is_domain_kind, match_at, faults_in}

-- the rules of one table of a list: one for each of its actions, in order
abbrev pub text_of : Data → List (List ℕ)
text_of d = option_to_list (as_str d)

abbrev pub patterns_of : Members → List (List ℕ)
patterns_of ms = over_items text_of (items_at (codes "regex") ms)

abbrev pub actions_given : Data → List Action
actions_given d = option_to_list (ok_of (action_at d))

abbrev pub actions_of : Members → List Action
actions_of ms = over_items actions_given (items_at (codes "action") ms)

abbrev pub rule_of : Members → Action → Rule
rule_of ms action = record {
  patterns = patterns_of ms;
  action = action;
  trigger = unwrap_or (ok_of (trigger_at (get_member (codes "trigger") ms))) when.Immediate;
  duration = unwrap_or (ok_of (lasting_at (get_member (codes "duration") ms))) 0;
}

abbrev pub rules_given : Members → List Rule
rules_given ms = map (rule_of ms) (actions_of ms)

unfoldable pub rules_of_entry : Data → List Rule
rules_of_entry d = on_table rules_given [] (as_table d)

unfoldable pub rules_of_table : Members → List Rule
rules_of_table ms = over_items rules_of_entry (list_at (codes "automation") ms)

-- a table
abbrev pub source_table : List ℕ → Members → SourceTable
source_table name ms = record { source = name; options = options_of ms; rules = rules_of_table ms }

unfoldable pub source_given : List ℕ → Data → List SourceTable
source_given name d = on_table (λ ms. source_table name ms ∷ []) [] (as_table d)

unfoldable pub shape_of : Members → ShapeTable
shape_of ms = record {
  options = options_of ms;
  rules = rules_of_table ms;
  sources = over_members source_given (members_at (codes "sources") ms);
}

-- a provider
abbrev pub matches_given : Data → List Match
matches_given d = option_to_list (ok_of (match_at d))

abbrev pub provider_of : List ℕ → Members → Provider
provider_of name ms = record {
  name = name;
  matches = over_items matches_given (items_at (codes "match") ms);
  table = shape_of ms;
}

unfoldable pub provider_given : List ℕ → Data → List Provider
provider_given name d = on_table (λ ms. provider_of name ms ∷ []) [] (as_table d)

-- a domain, which counts in lower case
abbrev pub rollup_of : Members → Bool
rollup_of ms = unwrap_or (option_and_then as_bool (get_member (codes "mx_rollup") ms)) true

abbrev pub domain_of : List ℕ → Members → DomainShape
domain_of key ms = record { domain = str_to_ascii_lowercase key; rollup = rollup_of ms; table = shape_of ms }

-- domains in byte order of their names
unfoldable pub with_domain_at : List DomainShape → List ℕ → Data → List DomainShape
with_domain_at done key d =
    if bytes_eq key (codes "default") || bytes_eq key (codes "provider") then done
    else on_table (λ ms. with_named (λ x. x.domain) (domain_of key ms) done) done (as_table d)

abbrev pub with_domains : List DomainShape → Members → List DomainShape
with_domains done no_members = done
with_domains done (member key d ms) = with_domains (with_domain_at done key d) ms

unfoldable pub shaping_in : Members → Shaping
shaping_in document = record {
  base = shape_of (members_at (codes "default") document);
  providers = over_members provider_given (members_at (codes "provider") document);
  domains = with_domains [] document;
}

abbrev pub is_provider_kind : TableKind → Bool
is_provider_kind of_kind.Provider = true
is_provider_kind of_kind.Default = false
is_provider_kind of_kind.Domain = false
is_provider_kind of_kind.Source = false

-- a key that has an effect in a table of this kind: the name of an option, and some more
abbrev pub is_known_key : TableKind → List ℕ → Bool
is_known_key kind key =
    is_some (option_named key) || bytes_eq key (codes "automation")
    || (bytes_eq key (codes "sources") && has_sources kind)
    || (bytes_eq key (codes "mx_rollup") && is_domain_kind kind)
    || (bytes_eq key (codes "match") && is_provider_kind kind)

-- the keys without effect of a table
unfoldable pub ignored_at_key : TableKind → List ℕ → List ℕ → Data → List Ignored
ignored_at_key kind place key d = if is_known_key kind key then [] else ignored_at file.Shaping place key ∷ []

unfoldable pub ignored_of_table : PlacedTable → List Ignored
ignored_of_table t = over_members (ignored_at_key t.kind t.place) t.members

-- of a rule: its other keys, and its actions where one of them sets an option that has no effect here
abbrev pub is_rule_key : List ℕ → Bool
is_rule_key key =
    bytes_eq key (codes "regex") || bytes_eq key (codes "action") || bytes_eq key (codes "trigger") || bytes_eq key (codes "duration")

unfoldable pub ignored_at_rule_key : List ℕ → List ℕ → Data → List Ignored
ignored_at_rule_key place key d = if is_rule_key key then [] else ignored_at file.Shaping place key ∷ []

abbrev pub has_no_effect : Action → Bool
has_no_effect act.Nothing = true
has_no_effect act.Suspend = false
has_no_effect act.SuspendTenant = false
has_no_effect act.SuspendCampaign = false
has_no_effect (act.Set setting) = false

abbrev pub ignored_action : List ℕ → List Action → List Ignored
ignored_action place actions = if list_any has_no_effect actions then ignored_at file.Shaping place (codes "action") ∷ [] else []

unfoldable pub ignored_of_rule : PlacedRule → List Ignored
ignored_of_rule r =
    over_members (ignored_at_rule_key (numbered r.place r.number)) r.members
    ++ ignored_action (numbered r.place r.number) (actions_of r.members)

unfoldable pub ignored_in : Members → List Ignored
ignored_in document = flat_map ignored_of_table (tables_in document) ++ flat_map ignored_of_rule (rules_in (tables_in document))

-- what the file reads as
pub record ShapingFile : Type 0 where
  pub shaping : Shaping
  pub ignored : List Ignored

abbrev pub file_of : Members → ShapingFile
file_of document = record { shaping = shaping_in document; ignored = ignored_in document }

unfoldable pub shaping_file : List ℕ → Result ShapingFile Fault
shaping_file text = reading faults_in file_of (document_in text)
