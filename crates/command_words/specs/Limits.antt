-- The limits of the command line.
use Rattle.std.specs.Prelude.{ℕ}

-- the most workers
abbrev pub greatest_workers : ℕ
greatest_workers = 64

-- the most messages of a made load
abbrev pub greatest_load : ℕ
greatest_load = 100000
