-- Names of scheduled queues, `campaign:tenant@domain`, and their one spelling (KumoMTA's manual, queue names).
use Rattle.std.specs.Prelude.{ℕ, ◌==◌, nat_lt, nat_le, List, ◌∷◌, ◌++◌, length, Bool, true, not, ◌&&◌, Option, Some, None}
use Rattle.std.specs.List.{list_all}
use Rattle.std.specs.Str.{str_to_ascii_lowercase}
use Rattle.queue_name.specs.Limits.{name_limit}

pub record Name : Type 0 where
  pub campaign : Option (List ℕ)
  pub tenant : Option (List ℕ)
  pub domain : List ℕ

-- no control byte, and none of `@`, `:` and `!`
abbrev pub is_component_byte : ℕ → Bool
is_component_byte b = nat_le 32 b && not (b == 127) && not (b == 64) && not (b == 58) && not (b == 33)

-- of a domain, no capital letter besides
abbrev pub is_domain_byte : ℕ → Bool
is_domain_byte b = is_component_byte b && not (nat_le 65 b && nat_le b 90)

abbrev pub is_component : List ℕ → Bool
is_component bytes = nat_lt 0 (length bytes) && list_all is_component_byte bytes

abbrev pub is_domain : List ℕ → Bool
is_domain bytes = nat_lt 0 (length bytes) && list_all is_domain_byte bytes

abbrev pub is_optional_component : Option (List ℕ) → Bool
is_optional_component None = true
is_optional_component (Some bytes) = is_component bytes

-- the one spelling: `domain`, `tenant@domain`, `campaign:tenant@domain` or `campaign:@domain`
abbrev pub spelled : Option (List ℕ) → Option (List ℕ) → List ℕ → List ℕ
spelled None None domain = domain
spelled None (Some tenant) domain = tenant ++ (64 ∷ domain)
spelled (Some campaign) None domain = campaign ++ (58 ∷ (64 ∷ domain))
spelled (Some campaign) (Some tenant) domain = campaign ++ (58 ∷ (tenant ++ (64 ∷ domain)))

abbrev pub spelling : Name → List ℕ
spelling n = spelled n.campaign n.tenant n.domain

-- each component that is there may stand in a name, and the spelling keeps the limit
abbrev pub is_name : Name → Bool
is_name n =
    is_optional_component n.campaign && is_optional_component n.tenant && is_domain n.domain
    && nat_le (length (spelling n)) name_limit

-- the name with its domain in lower case
abbrev pub in_lower_case : Name → Name
in_lower_case n = record { campaign = n.campaign; tenant = n.tenant; domain = str_to_ascii_lowercase n.domain }
