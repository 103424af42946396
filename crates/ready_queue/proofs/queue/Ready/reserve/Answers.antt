use Rattle.std.proofs.Common.{length, nat_eq, ap, ◌∙◌}
use Rattle.std.specs.Map.{lookup}
use Rattle.indexmap.specs.IndexMap.{get, index_map_len}
use Rattle.ready_queue.specs.Links.{walked}
use Rattle.ready_queue.proofs.StepLemmas.{same_queue, by_walk}
use Rattle.ready_queue.proofs.queue.Ready.reserve.Goals as goal

pub invariant_of-self : goal.invariant_of-self
invariant_of-self c =
    let old = c.self.inside.links in
    let new = c.reserve.new.self in
    let is = same_queue (get nat_eq old) (get nat_eq new) (index_map_len old) (index_map_len new) _ _ _
    (λ n. ap (λ es. lookup (nat_eq n) es) c.reserve.ensures.entries) (ap length c.reserve.ensures.entries) c.self.invariant in
    by_walk _ _ _ _ _ is

pub returns-in_err-reserve-clause-numbers : goal.returns-in_err-reserve-clause-numbers
returns-in_err-reserve-clause-numbers c =
    ap (λ es. walked (λ n. lookup (nat_eq n) es) (length es) c.self.inside.first) c.reserve.ensures.entries ∙ ap (λ v. v.numbers) c.self.view_is

pub invariant_of-self-2 : goal.invariant_of-self-2
invariant_of-self-2 c =
    let old = c.self.inside.links in
    let new = c.reserve.new.self in
    let is = same_queue (get nat_eq old) (get nat_eq new) (index_map_len old) (index_map_len new) _ _ _
    (λ n. ap (λ es. lookup (nat_eq n) es) c.reserve.ensures.entries) (ap length c.reserve.ensures.entries) c.self.invariant in
    by_walk _ _ _ _ _ is

pub returns-clause-numbers : goal.returns-clause-numbers
returns-clause-numbers c =
    ap (λ es. walked (λ n. lookup (nat_eq n) es) (length es) c.self.inside.first) c.reserve.ensures.entries ∙ ap (λ v. v.numbers) c.self.view_is
