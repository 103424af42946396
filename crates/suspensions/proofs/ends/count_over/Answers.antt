use Rattle.std.proofs.Common.{leb, leb-true, leb-false, rules}
use Rattle.std.proofs.lemmas.List.Sorted.{IsPartitionPoint-from_clause, IsPartitionedBy-leb}
use Rattle.suspensions.proofs.IndexLemmas.{ends_rise}
use Rattle.suspensions.proofs.ends.count_over.Goals as goal

pub returns : goal.returns
returns c =
    let ends = c.args.ends.now in
    let parted = IsPartitionedBy-leb (λ ending. ending.end) ends c.args.t (ends_rise ends c.requires.ordered c.requires.numbers) in
    let point = IsPartitionPoint-from_clause (λ ending. leb ending.end c.args.t) ends c.partition_point.result c.partition_point.ensures.partitioned parted (λ a r q k. search rules) in
    record {
      bound = c.partition_point.ensures.bound;
      over = λ k d from below. leb-true _ _ (point.0 k d from below);
      later = λ k d from below. leb-false _ _ (point.1 k d from below);
    }
