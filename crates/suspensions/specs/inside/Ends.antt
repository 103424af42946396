-- The ends of an index, one by one.
use Rattle.std.specs.Prelude.{◌≡◌, ◌<◌, ◌≤◌, ◌-◌, ◌^◌, ℕ, List, false, length}
use Rattle.std.specs.List.{HoldsAt}
use Rattle.suspensions.specs.declared.given.Given.{Given}
use Rattle.suspensions.specs.declared.ends.Ending.{Ending}
use Rattle.suspensions.specs.Index.{ending_of}

-- numbers are below 2^32, and begin at 1
abbrev pub IsNumber : Ending → Type 0
IsNumber ending = (1 ≤ ending.number) × (ending.number < 2 ^ 32)

-- the end is that of the order of this number, which stands
abbrev pub IsEndOf : List Given → ℕ → Ending → Type 0
IsEndOf book number ending =
    (1 ≤ number) × (number ≤ length book) × HoldsAt (λ given. (given.resumed ≡ false) × (ending ≡ ending_of given)) book (number - 1)
