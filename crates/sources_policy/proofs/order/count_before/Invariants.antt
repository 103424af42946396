use Rattle.std.proofs.Common.{◌≡◌, ◌+◌, ◌-◌, ◌≤◌, length, drop}
use Rattle.sources_policy.specs.SourcesFile.{count_before}
use Rattle.sources_policy.proofs.order.count_before.Given as goal

abbrev pub decreases-loop-count : goal.decreases-loop-count
decreases-loop-count g l = length l.items - l.count

abbrev pub invariant-loop-count : goal.invariant-loop-count
invariant-loop-count g l =
    let name_of = g.T.Named.name_of in
    record {
      within : l.count ≤ length l.items;
      counted : l.count + count_before name_of l.name (drop l.count l.items) ≡ count_before name_of l.name l.items;
    }
