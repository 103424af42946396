-- Walks over the tables of a document.
use Rattle.std.specs.Prelude.{ℕ, List, [], ◌∷◌, ◌++◌, Bool, Option, Some, None, Result, Ok, Err, is_some, option_and_then}
use Rattle.toml.specs.Data.{Data, Members, no_members, member, as_table, get_member}
use Rattle.policy_fault.specs.declared.fault.Why.{Why}
use Rattle.policy_fault.specs.declared.fault.Why.TheVariants.{BadType}
use Rattle.policy_toml.specs.declared.fault.Fault.{Fault}
use Rattle.policy_toml.specs.Places.{fault}

-- what each member gives, one after another
abbrev pub over_members : {A : Type 0} → (List ℕ → Data → List A) → Members → List A
over_members give no_members = []
over_members give (member key d ms) = give key d ++ over_members give ms

-- by whether there is a table
abbrev pub on_table : {A : Type 0} → (Members → A) → A → Option Members → A
on_table some none None = none
on_table some none (Some ms) = some ms

abbrev pub is_table : Data → Bool
is_table d = is_some (as_table d)

-- the table at a key; no table and no key are the same
abbrev pub table_at : List ℕ → Members → Option Members
table_at key ms = option_and_then as_table (get_member key ms)

-- the members of the table at a key, none where there is no table
abbrev pub members_at : List ℕ → Members → Members
members_at key ms = on_table (λ t. t) no_members (table_at key ms)

-- a value that is to be a table is none
abbrev pub faults_unless_table : List ℕ → List ℕ → Option Data → List Fault
faults_unless_table table key None = []
faults_unless_table table key (Some d) = on_table (λ t. []) (fault table key BadType ∷ []) (as_table d)

-- the fault of a value that is refused
abbrev pub faults_of_value : {A : Type 0} → List ℕ → List ℕ → Result A Why → List Fault
faults_of_value table key (Ok a) = []
faults_of_value table key (Err why) = fault table key why ∷ []

-- what a value gives, where it is there and not refused
abbrev pub ok_of : {A : Type 0} → Result A Why → Option A
ok_of (Ok a) = Some a
ok_of (Err why) = None

abbrev pub value_at : {A : Type 0} → (Data → Result A Why) → List ℕ → Members → Option A
value_at read key ms = option_and_then (λ d. ok_of (read d)) (get_member key ms)
