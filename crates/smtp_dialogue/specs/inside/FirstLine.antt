-- The first line of a body and what stands behind its end.
use Rattle.std.specs.Prelude.{ℕ, ◌==◌, List, [], ◌∷◌, Bool, ◌||◌, if◌then◌else◌}
use Rattle.std.specs.List.{position_or_len}

abbrev pub is_line_end : ℕ → Bool
is_line_end b = b == 13 || b == 10

-- how many bytes stand before the first line end
abbrev pub line_length : List ℕ → ℕ
line_length bytes = position_or_len is_line_end bytes

abbrev pub behind_line_feed : List ℕ → List ℕ
behind_line_feed [] = []
behind_line_feed (b ∷ bytes) = if b == 10 then bytes else b ∷ bytes

-- the bytes behind the line end that these begin with
abbrev pub behind_end : List ℕ → List ℕ
behind_end [] = []
behind_end (b ∷ bytes) = if b == 13 then behind_line_feed bytes else bytes
