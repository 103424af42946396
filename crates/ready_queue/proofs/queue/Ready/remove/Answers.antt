use Rattle.std.proofs.Common.{◌≡◌, ◌+◌, ℕ, List, false, cond, Option, Some, None, is_some, nat_eq, length, ap, ◌∙◌, sym, subst}
use Rattle.std.specs.Map.{lookup}
use Rattle.indexmap.specs.IndexMap.{IndexMap, get, index_map_len, Updates}
use Rattle.ready_queue.specs.declared.links.Link.{Link}
use Rattle.ready_queue.specs.Queue.{has, without}
use Rattle.ready_queue.specs.Links.{IsQueue, walked}
use Rattle.ready_queue.specs.inside.Joins.{with_next, with_previous}
use Rattle.ready_queue.proofs.QueueLemmas.{without_absent}
use Rattle.ready_queue.proofs.StepLemmas.{same_queue, removed, walk_of, by_walk}
use Rattle.ready_queue.proofs.queue.Ready.remove.Goals as goal

-- one entry less, where what was taken out was there
less_one : (o p : Option Link) (link : Link) (a b : ℕ) → o ≡ p → o ≡ Some link → a + cond (is_some o) 1 0 ≡ b → a + 1 ≡ b
less_one o p link a b same there len = ap (λ t. a + cond t 1 0) (sym (ap is_some there)) ∙ len

module _ {S : Type 0} (old gone joined new : IndexMap ℕ Link S) (first last start end : Option ℕ) (ns : List ℕ) (n : ℕ) (link : Link) (value : Option Link) where
  without_number : IsQueue (get nat_eq old) (index_map_len old) first last ns → value ≡ Some link → value ≡ get nat_eq old n
      → Updates nat_eq old gone n None → index_map_len gone + cond (is_some value) 1 0 ≡ index_map_len old
      → ((k : ℕ) → get nat_eq joined k ≡ with_next link.previous link.next k (get nat_eq gone k))
      → start ≡ cond (is_some link.previous) first link.next → index_map_len joined ≡ index_map_len gone
      → ((k : ℕ) → get nat_eq new k ≡ with_previous link.next link.previous k (get nat_eq joined k))
      → end ≡ cond (is_some link.next) last link.previous → index_map_len new ≡ index_map_len joined
      → IsQueue (get nat_eq new) (index_map_len new) start end (without n ns)
  without_number is there found updates len joins starts same updates_too ends same_too =
      removed (get nat_eq old) (get nat_eq gone) (get nat_eq joined) (get nat_eq new) (index_map_len old) (index_map_len new) first last start end n link
      updates.0 joins updates_too starts ends
      (ap (λ l. l + 1) (same_too ∙ same) ∙ less_one value (get nat_eq old n) link (index_map_len gone) (index_map_len old) found there len)
      (sym found ∙ there) ns is

pub invariant_of-self : goal.invariant_of-self
invariant_of-self c =
    let old = c.self.inside.links in
    let new = c.swap_remove.new.self in
    let same = c.in_default.ensures.unchanged in
    let is = same_queue (get nat_eq old) (get nat_eq new) (index_map_len old) (index_map_len new) _ _ _
    (λ n. ap (λ es. lookup (nat_eq n) es) same) (ap length same) c.self.invariant in
    by_walk _ _ _ _ _ is

pub returns-in_default-clause-numbers : goal.returns-in_default-clause-numbers
returns-in_default-clause-numbers c =
    let s = c.self.inside in
    let n = c.args.number in
    let numbers = ap (λ v. v.numbers) c.self.view_is in
    let is = subst (IsQueue (get nat_eq s.links) (index_map_len s.links) s.first s.last) numbers c.self.invariant in
    let none : has n c.args.self.now.numbers ≡ false = sym (is.knows n) ∙ ap is_some (sym c.swap_remove.ensures.value ∙ c.in_default.is) in
    ap (λ es. walked (λ k. lookup (nat_eq k) es) (length es) s.first) c.in_default.ensures.unchanged ∙ numbers
    ∙ sym (without_absent n c.args.self.now.numbers none)

pub invariant_of-self-2 : goal.invariant_of-self-2
invariant_of-self-2 c =
    let s = c.self.inside in
    let e = c.swap_remove.ensures in
    let is = subst (IsQueue (get nat_eq s.links) (index_map_len s.links) s.first s.last) (ap (λ v. v.numbers) c.self.view_is) c.self.invariant in
    by_walk _ _ _ _ _
    (without_number s.links c.swap_remove.new.self c.link_next.new.links c.link_previous.new.links s.first s.last c.link_next.new.first
    c.link_previous.new.last _ c.args.number c.in-Some.link c.swap_remove.result is c.in-Some.is e.value e.updates e.len
    c.link_next.ensures.links c.link_next.ensures.first c.link_next.ensures.len
    c.link_previous.ensures.links c.link_previous.ensures.last c.link_previous.ensures.len)

pub returns-clause-numbers : goal.returns-clause-numbers
returns-clause-numbers c =
    let s = c.self.inside in
    let e = c.swap_remove.ensures in
    let is = subst (IsQueue (get nat_eq s.links) (index_map_len s.links) s.first s.last) (ap (λ v. v.numbers) c.self.view_is) c.self.invariant in
    walk_of _ _ _ _ _
    (without_number s.links c.swap_remove.new.self c.link_next.new.links c.link_previous.new.links s.first s.last c.link_next.new.first
    c.link_previous.new.last _ c.args.number c.in-Some.link c.swap_remove.result is c.in-Some.is e.value e.updates e.len
    c.link_next.ensures.links c.link_next.ensures.first c.link_next.ensures.len
    c.link_previous.ensures.links c.link_previous.ensures.last c.link_previous.ensures.len)
