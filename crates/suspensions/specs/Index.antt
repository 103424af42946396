-- The ends of the orders that were not taken back, from the earliest to the latest.
use Rattle.std.specs.Prelude.{◌≡◌, ◌<◌, ◌≤◌, ◌+◌, ◌*◌, ◌^◌, ℕ, List, Bool, not, ◌&&◌, All, count_by, length, slice_index_or}
use Rattle.std.specs.List.Sorted.{IsNonDecreasingBy}
use Rattle.suspensions.specs.declared.given.Given.{Given}
use Rattle.suspensions.specs.declared.ends.Ending.{Ending}
use Rattle.suspensions.specs.Orders.{end_of_given}

abbrev pub ending_of : Given → Ending
ending_of given = record { end = end_of_given given; number = given.number }

-- by its end, and by its number where ends are equal
abbrev pub rank : Ending → ℕ
rank ending = ending.end * 4294967296 + ending.number

-- an order has this number
abbrev pub IsNumberIn : List Given → Ending → Type 0
IsNumberIn book ending = (1 ≤ ending.number) × (ending.number ≤ length book)

-- the order stands, and its end passes a test
abbrev pub stands : (Ending → Bool) → Given → Bool
stands test given = not given.resumed && test (ending_of given)

-- the orders are numbered from 1
abbrev pub AreNumbered : List Given → Type 0
AreNumbered book = (k : ℕ) (d : Given) → k < length book → (slice_index_or book k d).number ≡ k + 1

-- the ends are those of the orders that stand, in order: each test passes for as many of both
pub record IsIndex (book : List Given) (ends : List Ending) : Type 0 where
  pub numbered : AreNumbered book
  pub few : length book < 2 ^ 32
  pub within : All (IsNumberIn book) ends
  pub counts : (test : Ending → Bool) → count_by test ends ≡ count_by (stands test) book
  pub ordered : IsNonDecreasingBy rank ends
