-- Domains that stand twice, by names that were met.
use Rattle.std.proofs.Common.{◌≡◌, ◌∙◌, ℕ, List, Option, cond, bytes_eq, Bool, true, false, ◌||◌, refl}
use Rattle.std.specs.Str.{str_to_ascii_lowercase}
use Rattle.toml.specs.Data.{Data, Members, no_members, member}
use Rattle.policy_toml.specs.declared.fault.Fault.{Fault}
use Rattle.policy_toml.specs.Places.{first_of}
use Rattle.policy_toml.specs.Domains.{met_with, faults_if_met, faults_of_twice}
use Rattle.policy_toml.proofs.Faults.{first_of_append}

-- only which names were met counts
if_met_same : (b : Bool) (f g : List ℕ → Bool) → ((name : List ℕ) → f name ≡ g name) → (place key : List ℕ) → faults_if_met b f place key ≡ faults_if_met b g place key
unfolding faults_if_met
if_met_same b f g same place key = rw (same (str_to_ascii_lowercase key)) refl

met_same : (b : Bool) (f g : List ℕ → Bool) → ((name : List ℕ) → f name ≡ g name) → (key name : List ℕ) → met_with b f key name ≡ met_with b g key name
unfolding met_with
met_same true f g same key name = rw (same name) refl
met_same false f g same key name = same name

pub twice_same : (is_domain : List ℕ → Data → Bool) (place : List ℕ) (f g : List ℕ → Bool) → ((name : List ℕ) → f name ≡ g name) → (ms : Members)
    → faults_of_twice is_domain place f ms ≡ faults_of_twice is_domain place g ms
twice_same is_domain place f g same no_members = refl
twice_same is_domain place f g same (member key d ms) =
    let b = is_domain key d in
    rw (if_met_same b f g same place key, twice_same is_domain place (met_with b f key) (met_with b g key) (met_same b f g same key) ms) refl

-- the step of a walk
pub twice_step : (is_domain : List ℕ → Data → Bool) (place : List ℕ) (f g : List ℕ → Bool) (best next : Option Fault) (key : List ℕ) (d : Data) (ms : Members)
    → next ≡ first_of best (faults_if_met (is_domain key d) f place key) → ((name : List ℕ) → g name ≡ met_with (is_domain key d) f key name)
    → first_of next (faults_of_twice is_domain place g ms) ≡ first_of best (faults_of_twice is_domain place f (member key d ms))
twice_step is_domain place f g best next key d ms e same =
    let b = is_domain key d in
    rw (e, twice_same is_domain place g (met_with b f key) same ms, first_of_append best (faults_if_met b f place key) (faults_of_twice is_domain place (met_with b f key) ms)) refl

cond_or : (a b : Bool) → cond a true b ≡ (a || b)
cond_or true b = refl
cond_or false b = refl

-- the name of a domain's table is added
pub inserted : (f g : List ℕ → Bool) (key : List ℕ)
    → ((name : List ℕ) → g name ≡ cond (bytes_eq (str_to_ascii_lowercase key) name) true (f name))
    → (name : List ℕ) → g name ≡ met_with true f key name
unfolding met_with
inserted f g key h name = h name ∙ cond_or (bytes_eq (str_to_ascii_lowercase key) name) (f name)
