-- Walks over lists, by the first of the faults that they meet.
use Rattle.std.proofs.Common.{◌≡◌, ◌≢◌, ◌<◌, ◌+◌, ℕ, List, [], ◌∷◌, length, get_or, drop, map, Option, Result, refl}
use Rattle.std.specs.List.{flat_map}
use Rattle.std.proofs.lemmas.List.{drop_more}
use Rattle.toml.specs.Data.{Data}
use Rattle.toml.specs.View.{items_view}
use Rattle.toml.specs.declared.value.Value.{Value}
use Rattle.policy_fault.specs.declared.fault.Why.{Why}
use Rattle.policy_toml.specs.declared.fault.Fault.{Fault}
use Rattle.policy_toml.specs.Places.{first_of}
use Rattle.policy_toml.proofs.Faults.{first_of_append}
use Rattle.shaping_policy.specs.Faults.{faults_of_list, faults_from}

-- the step of a walk over a list, each item of which is seen as a value that has faults
pub list_step : {A B : Type 0} (see : A → B) (faults : B → List Fault) (xs : List A) (i : ℕ) (x : A) (best next : Option Fault)
    → i < length xs → x ≡ get_or xs i x → next ≡ first_of best (faults (see x))
    → first_of next (flat_map faults (map see (drop (i + 1) xs))) ≡ first_of best (flat_map faults (map see (drop i xs)))
list_step see faults xs i x best next below is met =
    rw (met, drop_more xs i x below, ← is, first_of_append best (faults (see x)) (flat_map faults (map see (drop (i + 1) xs)))) refl

-- a list that has an item has the faults of its items
pub list_with_items : {A : Type 0} (read : Data → Result A Why) (empty : Why) (place : List ℕ) (number : ℕ) (key : List ℕ) (values : List Value)
    → length values ≢ 0
    → faults_of_list read empty place number key (items_view values) ≡ faults_from read place number key 1 (items_view values)
list_with_items read empty place number key [] some = absurd (some refl)
list_with_items read empty place number key (v ∷ vs) some = refl
