use Rattle.std.proofs.Common.{◌≡◌, ◌<◌, ◌+◌, ◌^◌, ◌++◌, ◌∷◌, [], ℕ, List, false, cond, Option, Some, None, Result, Ok, Err, IsOk, IfOk, OnOk, is_some, nat_eq, ap, ◌∙◌, sym, subst, arith}
use Rattle.std.proofs.lemmas.Bool.{true≢false}
use Rattle.indexmap.specs.IndexMap.{IndexMap, get, index_map_len, Updates}
use Rattle.ready_queue.specs.declared.links.Link.{Link}
use Rattle.ready_queue.specs.Queue.{has}
use Rattle.ready_queue.specs.Links.{IsQueue}
use Rattle.ready_queue.specs.inside.Joins.{with_next}
use Rattle.ready_queue.proofs.LinkLemmas.{known_next}
use Rattle.ready_queue.proofs.StepLemmas.{pushed, walk_of, by_walk}
use Rattle.ready_queue.proofs.queue.Ready.push.Goals as goal

at_ok : {T E P : Type 0} (r : Result T E) → IsOk r → OnOk r P → P
at_ok (Ok x) is h = h
at_ok (Err e) is h = absurd (true≢false (sym is))

-- one entry more, where the key was not there
one_more : {E : Type 0} (r : Result (Option Link) E) (o : Option Link) (a b : ℕ) → IsOk r → IfOk r (λ old. old ≡ o) → is_some o ≡ false
    → IfOk r (λ old. b ≡ a + cond (is_some old) 0 1) → b ≡ a + 1
one_more (Ok x) o a b is old none len = len ∙ ap (λ t. a + cond t 0 1) (ap is_some old ∙ none)
one_more (Err e) o a b is old none len = absurd (true≢false (sym is))

module _ {S E : Type 0} (old joined new : IndexMap ℕ Link S) (r : Result (Option Link) E) (first last start : Option ℕ) (ns : List ℕ) (n : ℕ) where
  with_number : IsQueue (get nat_eq old) (index_map_len old) first last ns → has n ns ≡ false → n < 2 ^ 32
      → ((k : ℕ) → get nat_eq joined k ≡ with_next last (Some n) k (get nat_eq old k)) → start ≡ cond (is_some last) first (Some n)
      → index_map_len joined ≡ index_map_len old → IsOk r → IfOk r (λ value. value ≡ get nat_eq joined n)
      → OnOk r (Updates nat_eq joined new n (Some (record { previous = last; next = None })))
      → IfOk r (λ value. index_map_len new ≡ index_map_len joined + cond (is_some value) 0 1)
      → IsQueue (get nat_eq new) (index_map_len new) start (Some n) (ns ++ n ∷ [])
  with_number is none fits joins starts same ok value updates len =
      let absent : is_some (get nat_eq joined n) ≡ false =
      ap is_some (joins n) ∙ known_next last (Some n) n (get nat_eq old n) ∙ is.knows n ∙ none in
      let more = one_more r (get nat_eq joined n) (index_map_len joined) (index_map_len new) ok value absent len in
      pushed (get nat_eq old) (get nat_eq joined) (get nat_eq new) (index_map_len old) (index_map_len new) first last start ns n is none fits joins
      (at_ok r ok updates).0 starts (more ∙ ap (λ l. l + 1) same)

pub invariant_of-self : goal.invariant_of-self
invariant_of-self c =
    let s = c.self.inside in
    let e = c.insert-absent.ensures in
    let numbers = ap (λ v. v.numbers) c.self.view_is in
    let room = ap (λ v. v.spare) c.self.view_is in
    let ok = e.succeeds (omega (arith, c.requires.room, room, c.link_next.ensures.spare)) in
    let is = subst (IsQueue (get nat_eq s.links) (index_map_len s.links) s.first s.last) numbers c.self.invariant in
    by_walk _ _ _ _ _
    (with_number s.links c.link_next.new.links c.insert-absent.new.self c.insert-absent.result s.first s.last c.link_next.new.first _ c.args.number
    is c.requires.absent c.ranges.number.fits c.link_next.ensures.links c.link_next.ensures.first c.link_next.ensures.len ok e.old e.updates e.len)

pub returns-clause-numbers : goal.returns-clause-numbers
returns-clause-numbers c =
    let s = c.self.inside in
    let e = c.insert-absent.ensures in
    let numbers = ap (λ v. v.numbers) c.self.view_is in
    let room = ap (λ v. v.spare) c.self.view_is in
    let ok = e.succeeds (omega (arith, c.requires.room, room, c.link_next.ensures.spare)) in
    let is = subst (IsQueue (get nat_eq s.links) (index_map_len s.links) s.first s.last) numbers c.self.invariant in
    walk_of _ _ _ _ _
    (with_number s.links c.link_next.new.links c.insert-absent.new.self c.insert-absent.result s.first s.last c.link_next.new.first _ c.args.number
    is c.requires.absent c.ranges.number.fits c.link_next.ensures.links c.link_next.ensures.first c.link_next.ensures.len ok e.old e.updates e.len)
