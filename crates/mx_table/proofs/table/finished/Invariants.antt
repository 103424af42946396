use Rattle.std.proofs.Common.{◌≡◌, IsTrue}
use Rattle.std.specs.List.{list_all}
use Rattle.policy_core.specs.Mx.{has_hosts}
use Rattle.mx_table.specs.MxText.{Joins}
use Rattle.mx_table.specs.inside.Merged.{domains}
use Rattle.mx_table.proofs.table.finished.Given as goal

abbrev pub invariant-loop-row : goal.invariant-loop-row
invariant-loop-row l = record {
  domains : domains l.done.items ≡ domains l.yielded;
  order : IsTrue (list_all (λ r. has_hosts r.hosts) l.done.items);
  joins : Joins l.done.items l.yielded;
}
