-- Moments: whole milliseconds since 1970.
use Rattle.std.specs.Prelude.{ℕ, min}
use Rattle.kumo_base.specs.Limits.{latest_moment}

-- a moment above the last counts as the last
abbrev pub clamped : ℕ → ℕ
clamped t = min t latest_moment
