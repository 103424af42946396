-- The names in policy texts.
use Rattle.std.specs.Prelude.{ℕ, ◌==◌, nat_le, nat_lt, List, length, Bool, not, ◌&&◌}
use Rattle.std.specs.List.{list_all}
use Rattle.policy_core.specs.Limits.{policy_name_limit}

-- a byte of the name of a source, a pool or a provider: no control byte, and no `>`
abbrev pub is_source_name_byte : ℕ → Bool
is_source_name_byte b = nat_le 32 b && not (b == 127) && not (b == 62)

abbrev pub is_source_name : List ℕ → Bool
is_source_name name = nat_lt 0 (length name) && nat_le (length name) policy_name_limit && list_all is_source_name_byte name

-- a byte of the name of a host, or of a domain in an MX table or a shaping file: visible ASCII without `|`, `=`, `:`, `@`,
-- `!` and `>`
abbrev pub is_host_name_byte : ℕ → Bool
is_host_name_byte b =
    nat_le 33 b && nat_le b 126 && not (b == 124) && not (b == 61) && not (b == 58) && not (b == 64) && not (b == 33) && not (b == 62)

abbrev pub is_host_name : List ℕ → Bool
is_host_name name = nat_lt 0 (length name) && nat_le (length name) policy_name_limit && list_all is_host_name_byte name
