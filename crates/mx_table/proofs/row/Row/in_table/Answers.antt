use Rattle.std.proofs.Common.{string_bytes}
use Rattle.std.proofs.lemmas.List.Filters.{dedup_is}
use Rattle.mx_table.proofs.HostLemmas.{order_of, hosts_of}
use Rattle.mx_table.proofs.row.Row.in_table.Goals as goal

pub returns-clause-order : goal.returns-clause-order
returns-clause-order c =
    rw (c.of.ensures, c.in_ok-texts.ensures)
    (order_of string_bytes c.self.inside.hosts.items _ _ c.self.invariant c.sort_unstable.ensures.permutation c.sort_unstable.ensures.sorted (dedup_is _ _ _ c.dedup.ensures.filtered))

pub returns-clause-hosts : goal.returns-clause-hosts
returns-clause-hosts c = λ host.
    rw (c.of.ensures, c.in_ok-texts.ensures, ← c.self.view_is)
    (hosts_of string_bytes c.self.inside.hosts.items _ _ c.sort_unstable.ensures.permutation (dedup_is _ _ _ c.dedup.ensures.filtered) host)
