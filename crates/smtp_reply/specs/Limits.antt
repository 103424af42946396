-- The limit of a reply.
use Rattle.std.specs.Prelude.{ℕ}

-- the most bytes of a reply
abbrev pub reply_limit : ℕ
reply_limit = 4096
