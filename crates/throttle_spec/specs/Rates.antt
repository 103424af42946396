-- What a rate admits, where there is one: by the moments at which something happened so far, in the order of them.
use Rattle.std.specs.Prelude.{ℕ, List, [], ◌∷◌, ◌++◌, Bool, true, Option, Some, None}
use Rattle.kumo_base.specs.Moment.{clamped}
use Rattle.throttle_spec.specs.Throttle.{Throttle, conforms, least_admitted}

-- it admits one more at a moment
abbrev pub admits : Option Throttle → List ℕ → ℕ → Bool
admits None moments t = true
admits (Some throttle) moments t = conforms throttle (moments ++ clamped t ∷ [])

-- the least moment from t on that it admits; the latest moment where there is none
abbrev pub least_by_rate : Option Throttle → List ℕ → ℕ → ℕ
least_by_rate None moments t = clamped t
least_by_rate (Some throttle) moments t = least_admitted throttle moments t
