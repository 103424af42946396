-- The first of faults that are met one after another.
use Rattle.std.proofs.Common.{◌≡◌, List, [], ◌∷◌, ◌++◌, Option, Some, refl}
use Rattle.policy_toml.specs.declared.fault.Fault.{Fault}
use Rattle.policy_toml.specs.Places.{earlier, first_of}

-- the first of some and then of others
pub first_of_append : (best : Option Fault) (xs ys : List Fault) → first_of best (xs ++ ys) ≡ first_of (first_of best xs) ys
first_of_append best [] ys = refl
first_of_append best (x ∷ xs) ys = first_of_append (Some (earlier best x)) xs ys
