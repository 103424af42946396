-- A bucket that took the moments of a history, as long as they keep its rate.
use Rattle.std.specs.Prelude.{◌≡◌, ℕ, List, Option, Some, None}
use Rattle.throttle_spec.specs.Throttle.{Throttle, Conforms}
use Rattle.throttle_spec.specs.Bucket.{BucketState, StandsFor}

-- there is none exactly where the moments do not keep the rate
abbrev pub IsFilled : Throttle → List ℕ → Option BucketState → Type 0
IsFilled s moments None = Conforms s moments → ⊥
IsFilled s moments (Some bucket) = (bucket.throttle ≡ s) × StandsFor bucket moments
