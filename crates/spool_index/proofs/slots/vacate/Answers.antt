use Rattle.std.proofs.Common.{refl, Some, Option, ◌≡◌, ◌+◌, nat_eq, is_some, cond, sym, ap, ◌∙◌, ℕ}
use Rattle.indexmap.specs.IndexMap.{get, index_map_len}
use Rattle.spool_index.proofs.KeptLemmas.{within_at}
use Rattle.spool_index.proofs.IndexLemmas.{settled, settle_held}
use Rattle.spool_index.proofs.slots.vacate.Goals as goal

-- one entry less, where what was taken out was there
less_one : (o p : Option ℕ) (k a b : ℕ) → o ≡ p → p ≡ Some k → a + cond (is_some o) 1 0 ≡ b → a + 1 ≡ b
less_one o p k a b same there len = ap (λ t. a + cond t 1 0) (sym (ap is_some (same ∙ there))) ∙ len

pub returns-else-len-clause-right : goal.returns-else-len-clause-right
returns-else-len-clause-right c =
    let slots = c.args.slots.now.items in
    let p = c.args.place in
    let e = c.swap_remove-slot.ensures in
    let there = c.requires.right.numbers c.args.slot p (within_at slots c.args.slot p c.requires.held) c.requires.held in
    settled c.args.index.now c.swap_remove-slot.new.self slots c.args.slot p c.requires.right c.requires.held e.updates.0
    (less_one c.swap_remove-slot.result (get nat_eq c.args.index.now p.id) c.args.slot (index_map_len c.swap_remove-slot.new.self) (index_map_len c.args.index.now) e.value there e.len)

pub pack-requires : goal.pack-requires
pack-requires c =
    let slots = c.args.slots.now.items in
    let p = c.args.place in
    let e = c.swap_remove-slot.ensures in
    let there = c.requires.right.numbers c.args.slot p (within_at slots c.args.slot p c.requires.held) c.requires.held in
    settled c.args.index.now c.swap_remove-slot.new.self slots c.args.slot p c.requires.right c.requires.held e.updates.0
    (less_one c.swap_remove-slot.result (get nat_eq c.args.index.now p.id) c.args.slot (index_map_len c.swap_remove-slot.new.self) (index_map_len c.args.index.now) e.value there e.len)

pub returns-then-len-clause-kept : goal.returns-then-len-clause-kept
returns-then-len-clause-kept c =
    let p = c.args.place in
    c.pack.ensures.kept ∙ settle_held c.args.slots.now.items p.id c.args.slot p c.requires.right.distinct c.requires.held refl

pub returns-else-len-clause-kept : goal.returns-else-len-clause-kept
returns-else-len-clause-kept c =
    let p = c.args.place in
    settle_held c.args.slots.now.items p.id c.args.slot p c.requires.right.distinct c.requires.held refl
