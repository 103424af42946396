-- The limits of what is read from outside.
use Rattle.std.specs.Prelude.{ℕ}

-- the most bytes of a text
abbrev pub text_limit : ℕ
text_limit = 268435456

-- how deep groups, repetitions and classes of a search pattern may nest
abbrev pub pattern_depth_limit : ℕ
pattern_depth_limit = 250
