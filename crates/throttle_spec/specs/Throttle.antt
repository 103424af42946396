-- Throttles, as `100/min`: a quantity a period, and a burst. Which lists of moments keep one, by all their pairs.
use Rattle.std.specs.Prelude.{◌≡◌, ◌≤◌, ◌<◌, ◌⊎◌, ℕ, zero, suc, ◌+◌, ◌-◌, ◌*◌, nat_le, nat_lt, Bool, true, ◌&&◌, if◌then◌else◌, List, [], ◌∷◌, ◌++◌, length, slice_index}
use Rattle.kumo_base.specs.Moment.{clamped}
use Rattle.kumo_base.specs.Limits.{latest_moment}
use Rattle.throttle_spec.specs.Limits.{greatest_quantity, longest_period}

-- so many a period of so many milliseconds, and so many at one moment
pub record Throttle : Type 0 where
  pub quantity : ℕ
  pub period : ℕ
  pub burst : ℕ

-- the limits of each
pub record IsThrottle (s : Throttle) : Type 0 where
  pub some_quantity : 1 ≤ s.quantity
  pub some_period : 1 ≤ s.period
  pub some_burst : 1 ≤ s.burst
  pub quantity_limit : s.quantity ≤ greatest_quantity
  pub period_limit : s.period ≤ longest_period
  pub burst_limit : s.burst ≤ greatest_quantity

-- how many stand from place i to place j
abbrev pub count_from : ℕ → ℕ → ℕ
count_from i j = j - i + 1

-- Those from place i to place j fit between the moments of the two, the burst beside. One takes period/quantity
-- milliseconds; both sides are times the quantity, so that nothing is rounded.
abbrev pub PairFits : Throttle → List ℕ → ℕ → ℕ → Type 0
PairFits s moments i j = count_from i j * s.period + slice_index moments i * s.quantity ≤ slice_index moments j * s.quantity + s.burst * s.period

-- moments keep a throttle where all their pairs fit
abbrev pub Conforms : Throttle → List ℕ → Type 0
Conforms s moments = (i j : ℕ) → i ≤ j → j < length moments → PairFits s moments i j

-- whether a test holds of each number below n
abbrev pub all_below : (ℕ → Bool) → ℕ → Bool
all_below test zero = true
all_below test (suc n) = test n && all_below test n

-- the same as tests
abbrev pub pair_fits : Throttle → List ℕ → ℕ → ℕ → Bool
pair_fits s moments i j = nat_le (count_from i j * s.period + slice_index moments i * s.quantity) (slice_index moments j * s.quantity + s.burst * s.period)

abbrev pub conforms : Throttle → List ℕ → Bool
conforms s moments = all_below (λ j. all_below (λ i. pair_fits s moments i j) (j + 1)) (length moments)

-- the first number from t on that passes a test, and t + steps where none before it does
unfoldable pub first_from : (ℕ → Bool) → ℕ → ℕ → ℕ
first_from test zero t = t
first_from test (suc steps) t = if test t then t else first_from test steps (t + 1)

-- the first moment from t to the last one that conforms behind the moments taken, and the last one where none does
abbrev pub least_admitted : Throttle → List ℕ → ℕ → ℕ
least_admitted s moments t = first_from (λ u. conforms s (moments ++ u ∷ [])) (latest_moment - clamped t) (clamped t)

-- what that says of a moment u
pub record IsLeastAdmitted (s : Throttle) (moments : List ℕ) (t u : ℕ) : Type 0 where
  pub from : clamped t ≤ u
  pub within : u ≤ latest_moment
  pub none_before : (v : ℕ) → clamped t ≤ v → v < u → Conforms s (moments ++ v ∷ []) → ⊥
  pub admitted : Conforms s (moments ++ u ∷ []) ⊎ (u ≡ latest_moment)

-- whether a moment is in a window, without the window's end and with it
abbrev pub is_in : ℕ → ℕ → ℕ → Bool
is_in from end t = nat_le from t && nat_lt t end

abbrev pub is_in_closed : ℕ → ℕ → ℕ → Bool
is_in_closed from end t = nat_le from t && nat_le t end
