-- The faults of texts that are no patterns, and of lists of them.
use Rattle.std.proofs.Common.{◌≡◌, ◌==◌, ◌+◌, ◌<◌, ℕ, List, [], ◌∷◌, length, get_or, drop, map, sym, Bool, true, false, ◌&&◌, nat_le, if◌then◌else◌, Option, Some, None, Result, Ok, Err, is_ok, refl}
use Rattle.std.specs.List.{flat_map}
use Rattle.std.proofs.lemmas.List.{drop_more}
use Rattle.toml.proofs.Views.{items_view-drop}
use Rattle.toml.specs.Data.{Data, as_str}
use Rattle.toml.specs.View.{view, items_view}
use Rattle.toml.specs.declared.value.Value.{Value}
use Rattle.kumo_outside.specs.Search.{is_pattern}
use Rattle.policy_fault.specs.declared.fault.Why.{Why}
use Rattle.policy_fault.specs.declared.fault.Why.TheVariants.{BadPattern}
use Rattle.policy_toml.specs.declared.fault.Fault.{Fault}
use Rattle.policy_toml.proofs.Faults.{first_of_append}
use Rattle.policy_toml.specs.Places.{fault_in, first_of}
use Rattle.shaping_policy.specs.declared.patterns.TheConstants.{PATTERN_LIMIT}
use Rattle.shaping_policy.specs.RuleValues.{pattern_text, pattern_at}
use Rattle.shaping_policy.specs.Faults.{faults_of_read, faults_of_list, faults_from}

-- what is refused is refused as no pattern
refused : (text : Option (List ℕ)) → is_ok (pattern_text text) ≡ false → pattern_text text ≡ Err BadPattern
refused None e = refl
refused (Some text) e = by (nat_le (length text) PATTERN_LIMIT && is_pattern text) e where
  by : (b : Bool) → is_ok {T = List ℕ} {E = Why} (if b then Ok text else Err BadPattern) ≡ false → (if b then Ok text else Err BadPattern) ≡ Err BadPattern
  by true e = absurd cc
  by false e = refl

pub no_pattern : (place : List ℕ) (number : ℕ) (key : List ℕ) (n : ℕ) (d : Data) → is_ok (pattern_at d) ≡ false
    → faults_of_read place number key n (pattern_at d) ≡ fault_in place number key n BadPattern ∷ []
unfolding pattern_at
no_pattern place number key n d e = rw (refused (as_str d) e) refl

-- a list that is not empty has the faults of its items
pub listed : {A : Type 0} (read : Data → Result A Why) (empty : Why) (place : List ℕ) (number : ℕ) (key : List ℕ) (values : List Value)
    → (length values == 0) ≡ false
    → faults_of_list read empty place number key (items_view values) ≡ faults_from read place number key 1 (items_view values)
listed read empty place number key [] e = absurd cc
listed read empty place number key (v ∷ vs) e = refl

-- the step of the walk over a list
pub item_step : {A : Type 0} (read : Data → Result A Why) (place : List ℕ) (number : ℕ) (key : List ℕ) (values : List Value) (index : ℕ) (value : Value)
    → index < length values → value ≡ get_or values index value → (now next : Option Fault)
    → next ≡ first_of now (faults_of_read place number key (index + 1) (read (view value)))
    → first_of next (faults_from read place number key (index + 1 + 1) (items_view (drop (index + 1) values)))
    ≡ first_of now (faults_from read place number key (index + 1) (items_view (drop index values)))
item_step read place number key values index value within is now next e =
    rw (e, items_view-drop values index value within, ← is)
    (sym (first_of_append now (faults_of_read place number key (index + 1) (read (view value))) (faults_from read place number key (index + 1 + 1) (items_view (drop (index + 1) values)))))

-- and of that over the rules
pub rule_step : {R P : Type 0} (seen : R → P) (give : P → List Fault) (rules : List R) (index : ℕ) (rule : R)
    → index < length rules → rule ≡ get_or rules index rule → (now next : Option Fault) → next ≡ first_of now (give (seen rule))
    → first_of next (flat_map give (map seen (drop (index + 1) rules))) ≡ first_of now (flat_map give (map seen (drop index rules)))
rule_step seen give rules index rule within is now next e =
    rw (e, drop_more rules index rule within, ← is)
    (sym (first_of_append now (give (seen rule)) (flat_map give (map seen (drop (index + 1) rules)))))
