use Rattle.std.proofs.Common.{length, nat_eq}
use Rattle.indexmap.specs.IndexMap.{get, index_map_len}
use Rattle.ready_queue.specs.Links.{walked}
use Rattle.ready_queue.proofs.WalkLemmas.{Reached}
use Rattle.ready_queue.proofs.queue.Ready.first_free.Given as goal

abbrev pub invariant-loop-next : goal.invariant-loop-next
invariant-loop-next g l =
    Reached (λ n answer. goal.F-post g l.held n answer) (get nat_eq l.self-inside.links) (index_map_len l.self-inside.links) l.self.numbers l.next

abbrev pub decreases-loop-next : goal.decreases-loop-next
decreases-loop-next g l = length (walked (get nat_eq l.self-inside.links) (index_map_len l.self-inside.links) l.next)
