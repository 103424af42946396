-- The limit of a mail text.
use Rattle.std.specs.Prelude.{ℕ}

-- the most messages of a mail text
abbrev pub message_limit : ℕ
message_limit = 100000
