-- The least number of what passes a test, told by counts.
use Rattle.std.specs.Prelude.{◌≡◌, ◌<◌, ◌-◌, ◌==◌, ◌&&◌, ℕ, List, Bool, false, nat_lt, nat_le, Option, Some, None, count_by, slice_get}
use Rattle.std.specs.Option.{option_map_or}
use Rattle.suspensions.specs.declared.given.Given.{Given}
use Rattle.suspensions.specs.declared.ends.Ending.{Ending}

module _ {X : Type 0} where
  -- it passes, and has this number
  abbrev pub is_at : (X → ℕ) → (X → Bool) → ℕ → X → Bool
  is_at number_of test n x = test x && number_of x == n

  -- it passes, and has a lower number
  abbrev pub is_below : (X → ℕ) → (X → Bool) → ℕ → X → Bool
  is_below number_of test n x = test x && nat_lt (number_of x) n

  -- the least number of those that pass, where there are any
  abbrev pub IsLeast : (X → ℕ) → (X → Bool) → List X → Option ℕ → Type 0
  IsLeast number_of test xs None = count_by test xs ≡ 0
  IsLeast number_of test xs (Some n) =
      (0 < count_by (is_at number_of test n) xs) × (count_by (is_below number_of test n) xs ≡ 0)

-- the order of an end was given by then, and passes a test
abbrev pub is_given : ℕ → (Given → Bool) → List Given → Ending → Bool
is_given t test book ending = option_map_or (λ given. nat_le given.at t && test given) (slice_get book (ending.number - 1)) false

-- and it ends later
abbrev pub passes : ℕ → (Given → Bool) → List Given → Ending → Bool
passes t test book ending = nat_lt t ending.end && is_given t test book ending
