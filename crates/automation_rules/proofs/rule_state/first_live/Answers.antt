use Rattle.std.proofs.Common.{nat_le, rules}
use Rattle.std.proofs.lemmas.List.Sorted.{IsPartitionPoint-from_clause}
use Rattle.automation_rules.specs.declared.firing.Firing.{Firing}
use Rattle.automation_rules.proofs.FiringLemmas.{parted_live, parted_by_end}
use Rattle.automation_rules.proofs.rule_state.first_live.Goals as goal

pub returns-clause-live : goal.returns-clause-live
returns-clause-live c =
    let firings = c.args.firings.now.items in
    let point = IsPartitionPoint-from_clause (λ (f : Firing). nat_le f.end c.args.t) firings c.partition_point.result c.partition_point.ensures.partitioned (parted_by_end c.args.t firings c.requires) (λ a r q k. search rules) in
    parted_live c.args.t firings c.partition_point.result point
