-- The faults of a shaping file.
use Rattle.std.specs.Prelude.{ℕ, ◌+◌, nat_lt, List, [], ◌∷◌, ◌++◌, Bool, true, false, not, ◌&&◌, ◌||◌, Option, Some, None, Result, Ok, Err, is_some, option_and_then, bytes_eq, codes, if◌then◌else◌, count_by}
use Rattle.std.specs.List.{filter, flat_map}
use Rattle.std.specs.Ordering.{is_lt}
use Rattle.std.specs.Str.{str_to_ascii_lowercase}
use Rattle.toml.specs.Data.{Data, Items, no_items, item, Members, get_member, as_str, as_table, as_array, as_bool}
use Rattle.policy_core.specs.Names.{is_source_name, is_host_name}
use Rattle.policy_fault.specs.declared.fault.Why.{Why}
use Rattle.policy_fault.specs.declared.fault.Why.TheVariants.{BadType, BadName, BadPattern, BadAction, BadMatch}
use Rattle.policy_core.specs.declared.rules.Setting.{Setting}
use Rattle.policy_core.specs.declared.shaping.Match.{Match}
use Rattle.policy_core.specs.declared.shaping.Match.TheVariants as kind
use Rattle.policy_toml.specs.declared.fault.Fault.{Fault}
use Rattle.policy_fault.specs.TableNames.{joined}
use Rattle.policy_toml.specs.Places.{fault, fault_in, whole_table, fault_cmp}
use Rattle.policy_toml.specs.Walks.{over_members, on_table, is_table, members_at, faults_of_value}
use Rattle.policy_toml.specs.Domains.{none_met, faults_of_twice}
use Rattle.shaping_policy.specs.declared.tables.TableKind.{TableKind}
use Rattle.shaping_policy.specs.declared.tables.TableKind.TheVariants.{Default, Provider, Domain, Source}
use Rattle.shaping_policy.specs.Limits.{pattern_count_limit}
use Rattle.shaping_policy.specs.OptionValues.{setting_at}
use Rattle.shaping_policy.specs.RuleValues.{on_items, holds_only, pattern_at, action_at, trigger_at, lasting_at}
use Rattle.shaping_policy.specs.Tables.{PlacedTable, PlacedRule, tables_in, rules_in}

-- what is refused at a place is a fault there
abbrev pub faults_of_read : {A : Type 0} → List ℕ → ℕ → List ℕ → ℕ → Result A Why → List Fault
faults_of_read place number key n (Ok a) = []
faults_of_read place number key n (Err why) = fault_in place number key n why ∷ []

-- the faults of the items of a list, counted from n on
abbrev pub faults_from : {A : Type 0} → (Data → Result A Why) → List ℕ → ℕ → List ℕ → ℕ → Items → List Fault
faults_from read place number key n no_items = []
faults_from read place number key n (item d ds) = faults_of_read place number key n (read d) ++ faults_from read place number key (n + 1) ds

-- of a list, which has to have an item
abbrev pub faults_of_list : {A : Type 0} → (Data → Result A Why) → Why → List ℕ → ℕ → List ℕ → Items → List Fault
faults_of_list read empty place number key no_items = fault_in place number key 0 empty ∷ []
faults_of_list read empty place number key (item d ds) = faults_from read place number key 1 (item d ds)

-- of a value that is no list
abbrev pub faults_of_one : {A : Type 0} → (Data → Result A Why) → Bool → List ℕ → ℕ → List ℕ → Data → List Fault
faults_of_one read is_kind place number key d =
    if is_kind then faults_of_read place number key 0 (read d) else fault_in place number key 0 BadType ∷ []

abbrev pub is_text : Data → Bool
is_text d = is_some (as_str d)

-- a rule's texts: a text, or a list of texts that is not empty
unfoldable pub faults_of_regex : List ℕ → ℕ → Option Data → List Fault
faults_of_regex place number None = fault_in place number (codes "regex") 0 BadPattern ∷ []
faults_of_regex place number (Some d) =
    on_items (faults_of_list pattern_at BadType place number (codes "regex"))
    (faults_of_one pattern_at (is_text d) place number (codes "regex") d) (as_array d)

-- a rule's actions: a word, a table, or a list of these that is not empty
unfoldable pub faults_of_action : List ℕ → ℕ → Option Data → List Fault
faults_of_action place number None = fault_in place number (codes "action") 0 BadAction ∷ []
faults_of_action place number (Some d) =
    on_items (faults_of_list action_at BadType place number (codes "action"))
    (faults_of_one action_at (is_text d || is_table d) place number (codes "action") d) (as_array d)

-- the faults of a rule, those of its texts aside
unfoldable pub faults_of_rule : PlacedRule → List Fault
faults_of_rule r =
    faults_of_action r.place r.number (get_member (codes "action") r.members)
    ++ (faults_of_read r.place r.number (codes "trigger") 0 (trigger_at (get_member (codes "trigger") r.members))
    ++ faults_of_read r.place r.number (codes "duration") 0 (lasting_at (get_member (codes "duration") r.members)))

-- and of its texts
unfoldable pub faults_of_patterns : PlacedRule → List Fault
faults_of_patterns r = faults_of_regex r.place r.number (get_member (codes "regex") r.members)

-- where the texts of a rule stand, as the fault of a text that is one too many
abbrev pub text_places_of : List ℕ → ℕ → ℕ → Data → List Fault
text_places_of place number n d = if is_text d then fault_in place number (codes "regex") n BadPattern ∷ [] else []

abbrev pub text_places_from : List ℕ → ℕ → ℕ → Items → List Fault
text_places_from place number n no_items = []
text_places_from place number n (item d ds) = text_places_of place number n d ++ text_places_from place number (n + 1) ds

abbrev pub text_places_at : List ℕ → ℕ → Option Data → List Fault
text_places_at place number None = []
text_places_at place number (Some d) = on_items (text_places_from place number 1) (text_places_of place number 0 d) (as_array d)

unfoldable pub text_places : PlacedRule → List Fault
text_places r = text_places_at r.place r.number (get_member (codes "regex") r.members)

-- how many places there are up to and with one
abbrev pub count_up_to : Fault → List Fault → ℕ
count_up_to f places = count_by (λ other. not (is_lt (fault_cmp f other))) places

-- the texts past the limit, in the order of faults
unfoldable pub faults_of_many : List Fault → List Fault
faults_of_many places = filter (λ f. nat_lt pattern_count_limit (count_up_to f places)) places

-- a list of rules: a list of tables
abbrev pub faults_of_entry : List ℕ → ℕ → Data → List Fault
faults_of_entry place n d = if is_table d then [] else fault_in place 0 (codes "automation") n BadType ∷ []

abbrev pub faults_of_entries : List ℕ → ℕ → Items → List Fault
faults_of_entries place n no_items = []
faults_of_entries place n (item d ds) = faults_of_entry place n d ++ faults_of_entries place (n + 1) ds

unfoldable pub faults_of_automation : List ℕ → Data → List Fault
faults_of_automation place d =
    on_items (faults_of_entries place 1) (fault place (codes "automation") BadType ∷ []) (as_array d)

-- an option
abbrev pub faults_of_setting : List ℕ → List ℕ → Option (Result Setting Why) → List Fault
faults_of_setting place key None = []
faults_of_setting place key (Some read) = faults_of_value place key read

-- the tables of sources
unfoldable pub faults_of_source : List ℕ → List ℕ → Data → List Fault
faults_of_source place name d = if is_table d then [] else fault place name BadType ∷ []

unfoldable pub faults_of_sources : List ℕ → Data → List Fault
faults_of_sources place d =
    on_table (over_members (faults_of_source (joined place (codes "sources")))) (fault place (codes "sources") BadType ∷ []) (as_table d)

-- whether a domain's mail goes with that of others
unfoldable pub faults_of_rollup : List ℕ → Data → List Fault
faults_of_rollup place d = if is_some (as_bool d) then [] else fault place (codes "mx_rollup") BadType ∷ []

-- a match: a table of one suffix, which counts in lower case
abbrev pub suffix_match : (List ℕ → Match) → Option (List ℕ) → Result Match Why
suffix_match make None = Err BadMatch
suffix_match make (Some text) = Ok (make (str_to_ascii_lowercase text))

abbrev pub text_member : List ℕ → Members → Option (List ℕ)
text_member key ms = option_and_then as_str (get_member key ms)

abbrev pub match_in : Members → Result Match Why
match_in ms =
    if holds_only (codes "MXSuffix") (codes "MXSuffix") ms then suffix_match kind.MxSuffix (text_member (codes "MXSuffix") ms)
    else (if holds_only (codes "DomainSuffix") (codes "DomainSuffix") ms then suffix_match kind.DomainSuffix (text_member (codes "DomainSuffix") ms)
    else Err BadMatch)

unfoldable pub match_at : Data → Result Match Why
match_at d = on_table match_in (Err BadMatch) (as_table d)

-- a provider's matches: one, or a list of them that is not empty
unfoldable pub faults_of_match : List ℕ → Option Data → List Fault
faults_of_match place None = fault place (codes "match") BadMatch ∷ []
faults_of_match place (Some d) =
    on_items (faults_of_list match_at BadMatch place 0 (codes "match"))
    (faults_of_one match_at (is_table d) place 0 (codes "match") d) (as_array d)

-- a key of a table: each kind of table has the options and rules, and some have more
abbrev pub has_sources : TableKind → Bool
has_sources Source = false
has_sources Default = true
has_sources Provider = true
has_sources Domain = true

abbrev pub is_domain_kind : TableKind → Bool
is_domain_kind Domain = true
is_domain_kind Source = false
is_domain_kind Default = false
is_domain_kind Provider = false

unfoldable pub faults_at_key : TableKind → List ℕ → List ℕ → Data → List Fault
faults_at_key kind place key d =
    if bytes_eq key (codes "automation") then faults_of_automation place d
    else (if bytes_eq key (codes "sources") then (if has_sources kind then faults_of_sources place d else [])
    else (if bytes_eq key (codes "mx_rollup") then (if is_domain_kind kind then faults_of_rollup place d else [])
    else faults_of_setting place key (setting_at key d)))

-- the name of a table
abbrev pub is_named_well : TableKind → List ℕ → Bool
is_named_well Default name = true
is_named_well Provider name = is_source_name name
is_named_well Source name = is_source_name name
is_named_well Domain name = is_host_name (str_to_ascii_lowercase name)

abbrev pub faults_of_name : PlacedTable → List Fault
faults_of_name t = if is_named_well t.kind t.name then [] else fault t.place whole_table BadName ∷ []

-- what a provider has to have
abbrev pub faults_of_kind : TableKind → List ℕ → Members → List Fault
faults_of_kind Provider place ms = faults_of_match place (get_member (codes "match") ms)
faults_of_kind Default place ms = []
faults_of_kind Source place ms = []
faults_of_kind Domain place ms = []

-- the faults of a table, those of its rules aside
unfoldable pub faults_of_table : PlacedTable → List Fault
faults_of_table t =
    faults_of_name t ++ (faults_of_kind t.kind t.place t.members ++ over_members (faults_at_key t.kind t.place) t.members)

-- what is to be a table at the top of the document, and in `provider`
unfoldable pub faults_at_top : List ℕ → Data → List Fault
faults_at_top key d = if is_table d then [] else fault [] key BadType ∷ []

unfoldable pub faults_of_provider : List ℕ → Data → List Fault
faults_of_provider name d = if is_table d then [] else fault (codes "provider") name BadType ∷ []

-- the tables of domains
unfoldable pub is_domain_table : List ℕ → Data → Bool
is_domain_table key d = not (bytes_eq key (codes "default") || bytes_eq key (codes "provider")) && is_table d

-- the faults of a document, those of its patterns aside
unfoldable pub plain_faults : Members → List Fault
plain_faults document =
    over_members faults_at_top document
    ++ (over_members faults_of_provider (members_at (codes "provider") document)
    ++ (faults_of_twice is_domain_table [] none_met document
    ++ (flat_map faults_of_table (tables_in document)
    ++ flat_map faults_of_rule (rules_in (tables_in document)))))

-- those of its patterns
unfoldable pub pattern_faults : List PlacedRule → List Fault
pattern_faults rules = flat_map faults_of_patterns rules ++ faults_of_many (flat_map text_places rules)

unfoldable pub faults_in : Members → List Fault
faults_in document = plain_faults document ++ pattern_faults (rules_in (tables_in document))
