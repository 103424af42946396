-- The limits of a shaping file.
use Rattle.std.specs.Prelude.{ℕ}

-- the most bytes of a pattern
abbrev pub pattern_limit : ℕ
pattern_limit = 1024

-- the most patterns of a file
abbrev pub pattern_count_limit : ℕ
pattern_count_limit = 256
