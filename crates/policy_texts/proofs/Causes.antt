-- The causes of faults, where counts go on and reasons are seen from further out.
use Rattle.std.proofs.Common.{ℕ, ◌≤◌, arith}
use Rattle.kumo_base.specs.Causes.{Rose}
use Rattle.policy_texts.specs.declared.load.LoadFault.{LoadFault}
use Rattle.policy_texts.specs.declared.load.LoadFault.TheVariants as load_fault
use Rattle.policy_texts.specs.Texts.{Stop, too_long, refused}
use Rattle.policy_texts.specs.Policies.{Counts, HasCauseIn}

-- a count does not rise of itself
pub never_rose : Rose 0 0 → ⊥
never_rose h = omega arith

-- a rise is one from each earlier count
pub rose_since : (a b c : ℕ) → a ≤ b → Rose b c → Rose a c
rose_since a b c p h = omega arith

-- for the same cause among more reasons
pub cause_as : (P Q : Stop → Type 0) (a b : Counts) (f : LoadFault) → ((stop : Stop) → P stop → Q stop) → HasCauseIn P a f
    → (Rose a.texts_before a.texts_after → Rose b.texts_before b.texts_after)
    → (Rose a.search_before a.search_after → Rose b.search_before b.search_after) → HasCauseIn Q b f
cause_as P Q a b (load_fault.Refused place) up h by_texts by_search = up (refused place) h
cause_as P Q a b load_fault.Limit up h by_texts by_search = up too_long h
cause_as P Q a b load_fault.ReadFault up h by_texts by_search = by_texts h
cause_as P Q a b load_fault.SearchFault up h by_texts by_search = by_search h
cause_as P Q a b load_fault.Memory up h by_texts by_search = tt
