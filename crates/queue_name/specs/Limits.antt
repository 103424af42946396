-- The limits of names, addresses and bodies, in bytes.
use Rattle.std.specs.Prelude.{ℕ}

-- of a queue's name
abbrev pub name_limit : ℕ
name_limit = 1024

-- of an address: a path of RFC 5321 without its angle brackets
abbrev pub address_limit : ℕ
address_limit = 254

-- of a body
abbrev pub body_limit : ℕ
body_limit = 1048576
