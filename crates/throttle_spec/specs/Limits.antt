-- The limits of a throttle.
use Rattle.std.specs.Prelude.{ℕ}

-- of a quantity and of a burst
abbrev pub greatest_quantity : ℕ
greatest_quantity = 1000000000

-- in milliseconds: a day
abbrev pub longest_period : ℕ
longest_period = 86400000

-- in milliseconds: a second
abbrev pub shortest_unit : ℕ
shortest_unit = 1000
