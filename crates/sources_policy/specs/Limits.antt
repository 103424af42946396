-- The limit of a sources file.
use Rattle.std.specs.Prelude.{ℕ}

-- the most entrants of a pool
abbrev pub entrant_limit : ℕ
entrant_limit = 200
