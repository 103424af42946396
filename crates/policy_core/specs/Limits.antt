-- The limits and the defaults of a policy.
use Rattle.std.specs.Prelude.{ℕ, List, codes}

-- the most bytes of the name of a source, a pool or a host
abbrev pub policy_name_limit : ℕ
policy_name_limit = 255

-- the most open connections of a path, where nothing else is set (KumoMTA, `connection_limit`)
abbrev pub default_connection_limit : ℕ
default_connection_limit = 32

-- the most attempts on one connection, where nothing else is set (KumoMTA, `max_deliveries_per_connection`)
abbrev pub default_max_deliveries : ℕ
default_max_deliveries = 1024

-- the most ready messages of a path, where nothing else is set (KumoMTA, `max_ready`)
abbrev pub default_max_ready : ℕ
default_max_ready = 1024

-- the refused connections in a row after which a path delays its messages, where nothing else is set
abbrev pub default_failures_before_delay : ℕ
default_failures_before_delay = 100

-- the greatest number of an option
abbrev pub greatest_option : ℕ
greatest_option = 1000000

-- the greatest count of a rule's trigger
abbrev pub greatest_count : ℕ
greatest_count = 10000

-- how long a message is tried, in milliseconds, where nothing else is set: a week
abbrev pub default_max_age : ℕ
default_max_age = 604800000

-- the first wait after a failure, in milliseconds, where nothing else is set: 20 minutes
abbrev pub default_retry_interval : ℕ
default_retry_interval = 1200000

-- the source and the pool that are always there
abbrev pub unspecified : List ℕ
unspecified = codes "unspecified"

-- what a source without a name of its own says in EHLO
abbrev pub localhost : List ℕ
localhost = codes "localhost"
