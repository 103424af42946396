-- What a sources file gives, and its faults: the tables `source` and `pool` (KumoMTA's manual, the sources helper).
use Rattle.std.specs.Prelude.{ℕ, ◌+◌, ℤ, pos, negsuc, nat_le, nat_lt, List, [], ◌∷◌, ◌++◌, length, Bool, ◌&&◌, ◌||◌, Option, Some, None, Result, Ok, Err, is_some, unwrap_or, bytes_eq, codes, if◌then◌else◌}
use Rattle.std.specs.List.{list_all, list_any, insert}
use Rattle.std.specs.Ordering.{nat_cmp, is_lt}
use Rattle.std.specs.Cmp.Lexicographic.{slice_cmp}
use Rattle.toml.specs.Data.{Data, Members, as_table, as_integer, get_member}
use Rattle.policy_fault.specs.declared.fault.Why.{Why}
use Rattle.policy_fault.specs.declared.fault.Why.TheVariants.{BadType, BadName, BadWeight, TooMany, UnknownSource}
use Rattle.policy_fault.specs.declared.fault.PolicyFile.TheVariants as file
use Rattle.policy_fault.specs.declared.fault.Ignored.{Ignored}
use Rattle.policy_core.specs.Names.{is_source_name}
use Rattle.policy_core.specs.Limits.{unspecified, localhost}
use Rattle.policy_core.specs.declared.sources.Source.{Source}
use Rattle.policy_core.specs.declared.sources.Entrant.{Entrant}
use Rattle.policy_core.specs.declared.sources.Pool.{Pool}
use Rattle.policy_core.specs.declared.sources.Sources.{Sources}
use Rattle.sources_policy.specs.Limits.{entrant_limit}
use Rattle.policy_toml.specs.declared.fault.Fault.{Fault}
use Rattle.policy_fault.specs.TableNames.{joined}
use Rattle.policy_toml.specs.Places.{fault, whole_table, ignored_at}
use Rattle.policy_toml.specs.Values.{text_in, document_in}
use Rattle.policy_toml.specs.Walks.{over_members, on_table, is_table, table_at, members_at, faults_unless_table, faults_of_value, value_at}
use Rattle.policy_toml.specs.Reports.{reading}

-- the argument of EHLO: printable and without blanks
abbrev pub is_ehlo_byte : ℕ → Bool
is_ehlo_byte b = nat_le 33 b && nat_le b 126

abbrev pub is_ehlo : List ℕ → Bool
is_ehlo text = nat_lt 0 (length text) && nat_le (length text) 255 && list_all is_ehlo_byte text

abbrev pub ehlo_text : Result (List ℕ) Why → Result (List ℕ) Why
ehlo_text (Err why) = Err why
ehlo_text (Ok text) = if is_ehlo text then Ok text else Err BadName

abbrev pub ehlo_at : Data → Result (List ℕ) Why
ehlo_at d = ehlo_text (text_in d)

abbrev pub weight_in : Option ℤ → Result ℕ Why
weight_in None = Err BadType
weight_in (Some (pos n)) = if nat_le n 1000 then Ok n else Err BadWeight
weight_in (Some (negsuc n)) = Err BadWeight

abbrev pub weight_at : Data → Result ℕ Why
weight_at d = weight_in (as_integer d)

abbrev pub faults_of_name : List ℕ → List ℕ → List Fault
faults_of_name place name = if is_source_name name then [] else fault place whole_table BadName ∷ []

-- a key without a meaning of its own may hold anything but a table
abbrev pub faults_of_other : List ℕ → List ℕ → Data → List Fault
faults_of_other place key d = if is_table d then fault place key BadType ∷ [] else []

-- the table of a source
abbrev pub faults_at_source_key : List ℕ → List ℕ → Data → List Fault
faults_at_source_key place key d =
    if bytes_eq key (codes "ehlo_domain") then faults_of_value place key (ehlo_at d) else faults_of_other place key d

abbrev pub faults_in_source : List ℕ → List ℕ → Members → List Fault
faults_in_source place name ms = faults_of_name place name ++ over_members (faults_at_source_key place) ms

unfoldable pub faults_of_source : List ℕ → Data → List Fault
faults_of_source name d =
    on_table (faults_in_source (joined (codes "source") name) name) (fault (codes "source") name BadType ∷ []) (as_table d)

-- a source that the file has a table for, and the one that is always there
abbrev pub is_known_source : Members → List ℕ → Bool
is_known_source sources name = bytes_eq name unspecified || is_some (table_at name sources)

-- the table of an entrant in a pool
abbrev pub faults_at_entrant_key : List ℕ → List ℕ → Data → List Fault
faults_at_entrant_key place key d =
    if bytes_eq key (codes "weight") then faults_of_value place key (weight_at d) else faults_of_other place key d

abbrev pub faults_if_unknown : Members → List ℕ → List ℕ → List Fault
faults_if_unknown sources place name =
    if is_known_source sources name then [] else fault place whole_table UnknownSource ∷ []

abbrev pub faults_in_entrant : Members → List ℕ → List ℕ → Members → List Fault
faults_in_entrant sources place name ms =
    faults_of_name place name ++ (faults_if_unknown sources place name ++ over_members (faults_at_entrant_key place) ms)

unfoldable pub faults_of_entrant : Members → List ℕ → List ℕ → Data → List Fault
faults_of_entrant sources place name d =
    on_table (faults_in_entrant sources (joined place name) name) (fault place name BadType ∷ []) (as_table d)

-- the table of a pool
abbrev pub weight_of : Members → ℕ
weight_of ms = unwrap_or (value_at weight_at (codes "weight") ms) 1

abbrev pub entrant_of : List ℕ → Members → Entrant
entrant_of name ms = record { source = name; weight = weight_of ms }

abbrev pub entrant_at : List ℕ → Data → List Entrant
entrant_at name d = on_table (λ t. entrant_of name t ∷ []) [] (as_table d)

abbrev pub entrants_of : Members → List Entrant
entrants_of ms = over_members entrant_at ms

abbrev pub has_more_than : ℕ → List Entrant → Bool
has_more_than limit entrants = nat_lt limit (length entrants)

abbrev pub faults_if_many : List ℕ → Members → List Fault
faults_if_many place ms =
    if has_more_than entrant_limit (entrants_of ms) then fault place whole_table TooMany ∷ [] else []

abbrev pub faults_in_pool : Members → List ℕ → List ℕ → Members → List Fault
faults_in_pool sources place name ms =
    faults_of_name place name ++ (faults_if_many place ms ++ over_members (faults_of_entrant sources place) ms)

unfoldable pub faults_of_pool : Members → List ℕ → Data → List Fault
faults_of_pool sources name d =
    on_table (faults_in_pool sources (joined (codes "pool") name) name) (fault (codes "pool") name BadType ∷ []) (as_table d)

-- the faults of the document
unfoldable pub faults_in : Members → List Fault
faults_in ms =
    let sources = members_at (codes "source") ms in
    faults_unless_table [] (codes "source") (get_member (codes "source") ms)
    ++ (faults_unless_table [] (codes "pool") (get_member (codes "pool") ms)
    ++ (over_members faults_of_source sources
    ++ over_members (faults_of_pool sources) (members_at (codes "pool") ms)))

-- how many items at the front have names before this one
abbrev pub count_before : {T : Type 0} → (T → List ℕ) → List ℕ → List T → ℕ
count_before name_of name [] = 0
count_before name_of name (x ∷ more) =
    if is_lt (slice_cmp nat_cmp (name_of x) name) then 1 + count_before name_of name more else 0

abbrev pub has_name : {T : Type 0} → (T → List ℕ) → List ℕ → List T → Bool
has_name name_of name items = list_any (λ x. bytes_eq (name_of x) name) items

-- an item at its place by name, unless there is one of its name
abbrev pub put_if_new : {T : Type 0} → (T → List ℕ) → T → List T → List T
put_if_new name_of item items =
    if has_name name_of (name_of item) items then items
    else insert items (count_before name_of (name_of item) items) item

-- a source, and the one that is always there; a table of that name stands for it
abbrev pub ehlo_of : Members → List ℕ
ehlo_of ms = unwrap_or (value_at ehlo_at (codes "ehlo_domain") ms) localhost

abbrev pub source_of : List ℕ → Members → Source
source_of name ms = record { name = name; ehlo = ehlo_of ms }

abbrev pub unspecified_source : Source
unspecified_source = record { name = unspecified; ehlo = localhost }

abbrev pub source_at : List ℕ → Data → List Source
source_at name d = on_table (λ t. source_of name t ∷ []) [] (as_table d)

abbrev pub sources_of : Members → List Source
sources_of ms = put_if_new (λ s. s.name) unspecified_source (over_members source_at ms)

abbrev pub pool_of : List ℕ → Members → Pool
pool_of name ms = record { name = name; entrants = entrants_of ms }

abbrev pub unspecified_pool : Pool
unspecified_pool = record {
  name = unspecified;
  entrants = record { source = unspecified; weight = 1 } ∷ [];
}

abbrev pub pool_at : List ℕ → Data → List Pool
pool_at name d = on_table (λ t. pool_of name t ∷ []) [] (as_table d)

abbrev pub pools_of : Members → List Pool
pools_of ms = put_if_new (λ p. p.name) unspecified_pool (over_members pool_at ms)

unfoldable pub sources_in : Members → Sources
sources_in ms = record {
  sources = sources_of (members_at (codes "source") ms);
  pools = pools_of (members_at (codes "pool") ms);
}

-- the keys without effect of a table of which one key has one
abbrev pub ignored_but : List ℕ → List ℕ → List ℕ → Data → List Ignored
ignored_but known place key d = if bytes_eq key known then [] else ignored_at file.Sources place key ∷ []

unfoldable pub ignored_of_source : List ℕ → Data → List Ignored
ignored_of_source name d =
    on_table (over_members (ignored_but (codes "ehlo_domain") (joined (codes "source") name))) [] (as_table d)

unfoldable pub ignored_of_entrant : List ℕ → List ℕ → Data → List Ignored
ignored_of_entrant place name d = on_table (over_members (ignored_but (codes "weight") (joined place name))) [] (as_table d)

unfoldable pub ignored_of_pool : List ℕ → Data → List Ignored
ignored_of_pool name d = on_table (over_members (ignored_of_entrant (joined (codes "pool") name))) [] (as_table d)

abbrev pub ignored_at_top : List ℕ → Data → List Ignored
ignored_at_top key d =
    if bytes_eq key (codes "source") || bytes_eq key (codes "pool") then [] else ignored_at file.Sources [] key ∷ []

unfoldable pub ignored_in : Members → List Ignored
ignored_in ms =
    over_members ignored_at_top ms
    ++ (over_members ignored_of_source (members_at (codes "source") ms)
    ++ over_members ignored_of_pool (members_at (codes "pool") ms))

-- what the file reads as
pub record SourcesFile : Type 0 where
  pub sources : Sources
  pub ignored : List Ignored

abbrev pub file_of : Members → SourcesFile
file_of ms = record { sources = sources_in ms; ignored = ignored_in ms }

unfoldable pub sources_file : List ℕ → Result SourcesFile Fault
sources_file text = reading faults_in file_of (document_in text)
