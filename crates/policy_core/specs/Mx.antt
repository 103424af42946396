-- The mail exchangers of domains (RFC 5321 section 5.1, without preferences): rows of a domain and its hosts.
use Rattle.std.specs.Prelude.{ℕ, List, [], ◌∷◌, Bool, true, false, ◌&&◌, Option, find, map, bytes_eq, option_map}
use Rattle.std.specs.List.{list_all}
use Rattle.std.specs.Ordering.{nat_cmp, is_lt}
use Rattle.std.specs.Cmp.Lexicographic.{slice_cmp}
use Rattle.policy_core.specs.Names.{is_host_name}
use Rattle.policy_core.specs.declared.mx.MxRow.{MxRow}

abbrev pub comes_before : List ℕ → List ℕ → Bool
comes_before a b = is_lt (slice_cmp nat_cmp a b)

-- texts in byte order, each once
abbrev pub ascend_behind : List ℕ → List (List ℕ) → Bool
ascend_behind text [] = true
ascend_behind text (next ∷ more) = comes_before text next && ascend_behind next more

abbrev pub ascend : List (List ℕ) → Bool
ascend [] = true
ascend (text ∷ more) = ascend_behind text more

abbrev pub has_hosts : List (List ℕ) → Bool
has_hosts [] = false
has_hosts (host ∷ more) = ascend (host ∷ more)

-- rows by domain, and in each row a host or more; domains and hosts in byte order, each once
unfoldable pub is_mx_table : List MxRow → Bool
is_mx_table rows = ascend (map (λ row. row.domain) rows) && list_all (λ row. has_hosts row.hosts) rows

-- the hosts of a domain, where it has a row
abbrev pub hosts_in : List MxRow → List ℕ → Option (List (List ℕ))
hosts_in rows domain = option_map (λ row. row.hosts) (find (λ row. bytes_eq row.domain domain) rows)

-- hosts with names that a host may have
unfoldable pub are_hosts_named : List MxRow → Bool
are_hosts_named rows = list_all (λ row. list_all is_host_name row.hosts) rows
