-- The limits that the whole core shares.
use Rattle.std.specs.Prelude.{ℕ}

-- the latest moment, in milliseconds since 1970: 2^53 - 1
abbrev pub latest_moment : ℕ
latest_moment = 9007199254740991

-- the most bytes that are kept of a reply's text
abbrev pub reply_text_limit : ℕ
reply_text_limit = 512
