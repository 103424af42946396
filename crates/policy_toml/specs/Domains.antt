-- Domains as tables of a file name them: they count in lower case, and each may have one table.
use Rattle.std.specs.Prelude.{ℕ, List, [], ◌∷◌, ◌++◌, Bool, false, ◌&&◌, ◌||◌, bytes_eq, if◌then◌else◌}
use Rattle.std.specs.Str.{str_to_ascii_lowercase}
use Rattle.toml.specs.Data.{Data, Members, no_members, member}
use Rattle.policy_fault.specs.declared.fault.Why.TheVariants.{Twice}
use Rattle.policy_toml.specs.declared.fault.Fault.{Fault}
use Rattle.policy_fault.specs.TableNames.{joined}
use Rattle.policy_toml.specs.Places.{fault, whole_table}

-- names of domains that were met, by whether a name is among them
abbrev pub none_met : List ℕ → Bool
none_met name = false

abbrev pub with_name : List ℕ → (List ℕ → Bool) → List ℕ → Bool
with_name domain met name = bytes_eq domain name || met name

-- with the domain that a key names, where the key names one
unfoldable pub met_with : Bool → (List ℕ → Bool) → List ℕ → List ℕ → Bool
met_with is_domain met key = if is_domain then with_name (str_to_ascii_lowercase key) met else met

-- a domain that was met before
unfoldable pub faults_if_met : Bool → (List ℕ → Bool) → List ℕ → List ℕ → List Fault
faults_if_met is_domain met place key =
    if is_domain && met (str_to_ascii_lowercase key) then fault (joined place key) whole_table Twice ∷ [] else []

-- the domains among the members of a table that are equal in lower case to one before them
abbrev pub faults_of_twice : (List ℕ → Data → Bool) → List ℕ → (List ℕ → Bool) → Members → List Fault
faults_of_twice is_domain place met no_members = []
faults_of_twice is_domain place met (member key d ms) =
    faults_if_met (is_domain key d) met place key ++ faults_of_twice is_domain place (met_with (is_domain key d) met key) ms
