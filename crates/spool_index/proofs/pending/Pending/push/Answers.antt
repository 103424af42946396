use Rattle.std.proofs.Common.{◌≡◌, ◌<◌, ◌∷◌, ◌++◌, [], ◌+◌, ◌^◌, ℕ, false, Option, Some, None, SomeIff, cond, is_some, nat_eq, length, sym, ap, ◌∙◌, subst, arith}
use Rattle.std.proofs.lemmas.List.Sums.{sum_by_push}
use Rattle.indexmap.specs.IndexMap.{get, index_map_len}
use Rattle.spool_index.specs.Places.{has, live_size, compacted_size, live_cost, compacted_cost}
use Rattle.spool_index.specs.Slots.{kept, IsIndex}
use Rattle.spool_index.proofs.PlaceLemmas.{compacted_within}
use Rattle.spool_index.proofs.KeptLemmas.{kept-append}
use Rattle.spool_index.proofs.IndexLemmas.{pushed}
use Rattle.spool_index.proofs.pending.Pending.push.Goals as goal

-- a sum that was found to fit
sum_at : (o : Option ℕ) (a b x : ℕ) → SomeIff o (a + b < 2 ^ 64) (a + b) → o ≡ Some x → (a + b < 2 ^ 64) × (x ≡ a + b)
sum_at None a b x is at = absurd cc
sum_at (Some y) a b x is at = let same : y ≡ x = cc in (is.0, sym same ∙ is.1)

-- one entry more, where the key was not there
one_more : (o p : Option ℕ) (a b : ℕ) → o ≡ p → is_some p ≡ false → b ≡ a + cond (is_some o) 0 1 → b ≡ a + 1
one_more o p a b same none len = len ∙ ap (λ t. a + cond t 0 1) (ap is_some same ∙ none)

pub overflow_add-self : goal.overflow_add-self
overflow_add-self c =
    let slots = c.self.inside.slots.items in
    let sum = sum_at c.checked_add.result c.self.inside.live_size c.live_cost.result c.in_ok-live_size.live_size c.checked_add.ensures c.in_ok-live_size.ensures.ok_part in
    let more = compacted_within (kept slots ++ c.args.place ∷ []) in
    let live = sum_by_push live_cost (kept slots) c.args.place in
    let compacted = sum_by_push compacted_cost (kept slots) c.args.place in
    omega (arith, sum.0, more, live, compacted, c.self.invariant.live, c.self.invariant.compacted, c.live_cost.ensures, c.compacted_cost.ensures)

pub invariant_of-self-2 : goal.invariant_of-self-2
invariant_of-self-2 c =
    let slots = c.self.inside.slots.items in
    let m = c.self.inside.index in
    let n = c.insert.new.self in
    let p = c.args.place in
    let none : has p.id (kept slots) ≡ false = ap (has p.id) c.self.view_is ∙ c.requires in
    let items : c.push_reserved.new.self.items ≡ slots ++ Some p ∷ [] =
    c.push_reserved.ensures.items ∙ ap (λ s. s ++ Some p ∷ []) c.reserve.ensures.items in
    let count : c.len.result ≡ length slots = c.len.ensures ∙ c.reserve.ensures.len ∙ c.self.inside.slots.ok.0 in
    let e = c.in_ok-insert.ensures in
    let updates = λ (q : ℕ). e.updates.0 q ∙ ap (λ k. cond (nat_eq p.id q) (Some k) (get nat_eq m q)) count in
    let len = one_more c.in_ok-insert.field-0 (get nat_eq m p.id) (index_map_len m) (index_map_len n) e.old (c.self.invariant.right.knows p.id ∙ none) e.len in
    let right = pushed m n slots p c.self.invariant.right none updates len in
    let all : kept c.push_reserved.new.self.items ≡ kept slots ++ p ∷ [] = ap kept items ∙ kept-append slots (Some p ∷ []) in
    let sum = sum_at c.checked_add.result c.self.inside.live_size c.live_cost.result c.in_ok-live_size.live_size c.checked_add.ensures c.in_ok-live_size.ensures.ok_part in
    record {
      right = subst (λ s. IsIndex n s) (sym items) right;
      live = omega (arith, sum.1, sum_by_push live_cost (kept slots) p, c.self.invariant.live, c.live_cost.ensures, ap live_size all);
      compacted =
          omega (arith, sum_by_push compacted_cost (kept slots) p, c.self.invariant.compacted, c.compacted_cost.ensures, ap compacted_size all);
    }

pub returns-clause-ok : goal.returns-clause-ok
returns-clause-ok c =
    let slots = c.self.inside.slots.items in
    let p = c.args.place in
    ap kept (c.push_reserved.ensures.items ∙ ap (λ s. s ++ Some p ∷ []) c.reserve.ensures.items)
    ∙ kept-append slots (Some p ∷ []) ∙ ap (λ l. l ++ p ∷ []) c.self.view_is
