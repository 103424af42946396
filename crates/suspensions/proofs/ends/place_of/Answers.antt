use Rattle.std.proofs.Common.{rules}
use Rattle.std.proofs.lemmas.List.Sorted.{IsPartitionPoint-from_clause}
use Rattle.suspensions.proofs.IndexLemmas.{comes_before, parted, first_from}
use Rattle.suspensions.proofs.ends.place_of.Goals as goal

pub returns : goal.returns
returns c =
    let ends = c.args.ends.now in
    let e = c.args.ending in
    let point = IsPartitionPoint-from_clause (comes_before e) ends c.partition_point.result c.partition_point.ensures.partitioned (parted ends e c.requires.ordered c.requires.numbers c.requires.held) (λ a r q k. search rules) in
    let found = first_from ends e c.partition_point.result c.requires.ordered c.requires.numbers c.requires.held point in
    record { bound = found.0; held = found.1 }
