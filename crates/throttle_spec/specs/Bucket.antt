-- What the one number of a bucket says of the moments that it took.
use Rattle.std.specs.Prelude.{◌≡◌, ◌≤◌, ◌<◌, ◌⊎◌, ℕ, ◌+◌, ◌-◌, ◌*◌, List, [], length, slice_index}
use Rattle.kumo_base.specs.Moment.{clamped}
use Rattle.throttle_spec.specs.Throttle.{Throttle, IsThrottle, Conforms}

-- A throttle, and the theoretical arrival time of the generic cell rate algorithm (ITU-T I.371), times the quantity.
pub record BucketState : Type 0 where
  pub throttle : Throttle
  pub arrival : ℕ

-- the moment at place i times the quantity, and a period for each from it on
abbrev pub reach : Throttle → List ℕ → ℕ → ℕ
reach s moments i = slice_index moments i * s.quantity + (length moments - i) * s.period

-- a number is the greatest reach over all moments, and 0 where there are none
pub record IsGreatestReach (s : Throttle) (moments : List ℕ) (number : ℕ) : Type 0 where
  pub each : (i : ℕ) → i < length moments → reach s moments i ≤ number
  pub attained : ((moments ≡ []) × (number ≡ 0)) ⊎ ((i : ℕ) × (i < length moments) × (number ≡ reach s moments i))

-- a bucket stands for the moments taken, in the order in which they were
pub record StandsFor (b : BucketState) (moments : List ℕ) : Type 0 where
  pub limits : IsThrottle b.throttle
  pub conforms : Conforms b.throttle moments
  pub greatest : IsGreatestReach b.throttle moments b.arrival

-- a bucket has room at a moment: one period more reaches no further than that moment and the burst
unfoldable pub IsAdmitted : BucketState → ℕ → Type 0
IsAdmitted b t = b.arrival + b.throttle.period ≤ clamped t * b.throttle.quantity + b.throttle.burst * b.throttle.period
