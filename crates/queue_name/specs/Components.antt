-- A component alone: a text is one where some queue name has it.
use Rattle.std.specs.Prelude.{ℕ, ◌-◌, nat_le, List, length, Bool, ◌&&◌}
use Rattle.queue_name.specs.QueueName.{is_component, is_domain}
use Rattle.queue_name.specs.Limits.{name_limit}

-- the domain of a name that has it alone
abbrev pub is_domain_of_some_name : List ℕ → Bool
is_domain_of_some_name domain = is_domain domain && nat_le (length domain) name_limit

-- a tenant before `@` and a domain of one byte
abbrev pub is_tenant_of_some_name : List ℕ → Bool
is_tenant_of_some_name tenant = is_component tenant && nat_le (length tenant) (name_limit - 2)

-- a campaign before `:@` and a domain of one byte
abbrev pub is_campaign_of_some_name : List ℕ → Bool
is_campaign_of_some_name campaign = is_component campaign && nat_le (length campaign) (name_limit - 3)
