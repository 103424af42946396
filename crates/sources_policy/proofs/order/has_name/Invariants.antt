use Rattle.std.proofs.Common.{◌≡◌, drop}
use Rattle.sources_policy.specs.SourcesFile.{has_name}
use Rattle.sources_policy.proofs.order.has_name.Given as goal

abbrev pub invariant-loop-item : goal.invariant-loop-item
invariant-loop-item g l =
    let name_of = g.T.Named.name_of in
    has_name name_of l.name (drop l.item-index l.items) ≡ has_name name_of l.name l.items
