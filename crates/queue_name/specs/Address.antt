-- The envelope rule for addresses (a subset of RFC 5321 section 4.1.2), and the domain that an address routes by.
use Rattle.std.specs.Prelude.{ℕ, ◌==◌, nat_lt, nat_le, List, length, Bool, not, ◌&&◌}
use Rattle.std.specs.List.{list_all, list_any, before_last, after_last}
use Rattle.std.specs.Str.{str_to_ascii_lowercase}
use Rattle.queue_name.specs.QueueName.{is_domain}
use Rattle.queue_name.specs.Limits.{address_limit}

-- a visible ASCII byte that is no angle bracket
abbrev pub is_address_byte : ℕ → Bool
is_address_byte b = nat_le 33 b && nat_le b 126 && not (b == 60) && not (b == 62)

abbrev pub is_at : ℕ → Bool
is_at b = b == 64

-- what stands behind the last `@`, in lower case
abbrev pub domain_of : List ℕ → List ℕ
domain_of address = str_to_ascii_lowercase (after_last is_at address)

-- none of `>`, `|` and `=`, which stand in the names of sites
abbrev pub is_no_mark : ℕ → Bool
is_no_mark b = not (b == 62) && not (b == 124) && not (b == 61)

-- the domain of a queue name, without the bytes that the names of sites use
abbrev pub is_routed_domain : List ℕ → Bool
is_routed_domain domain = is_domain domain && list_all is_no_mark domain

unfoldable pub is_address : List ℕ → Bool
is_address address =
    nat_lt 0 (length address) && nat_le (length address) address_limit && list_all is_address_byte address
    && list_any is_at address && nat_lt 0 (length (before_last is_at address)) && is_routed_domain (domain_of address)
