-- The last of a list of moments.
use Rattle.std.specs.Prelude.{◌≡◌, ◌<◌, ◌-◌, ◌⊎◌, ℕ, Bool, false, List, length, nat_le, slice_get, Option, Some, None, if◌then◌else◌}
use Rattle.circular_buffer.specs.Buffer.{Buffer}

-- it has its most places, or a place is free
abbrev pub HasPlace : ℕ → Buffer ℕ → Type 0
HasPlace most ring = (ring.capacity ≡ most) ⊎ (length ring.items < ring.capacity)

-- the n-th of the items, counted from the end
abbrev pub nth_last : ℕ → List ℕ → Option ℕ
nth_last n items = if nat_le n (length items) then slice_get items (length items - n) else None

-- it is there and passes a test
abbrev pub passes : (ℕ → Bool) → Option ℕ → Bool
passes test None = false
passes test (Some s) = test s
