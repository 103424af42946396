use Rattle.std.proofs.Common.{◌≡◌, is_some, sym, ap, ◌∙◌, arith}
use Rattle.std.proofs.lemmas.Bool.{true≢false}
use Rattle.spool_index.specs.Places.{has, find, without, live_size, compacted_size, live_cost, compacted_cost}
use Rattle.spool_index.specs.Slots.{kept}
use Rattle.spool_index.proofs.PlaceLemmas.{has-find, sum_without}
use Rattle.spool_index.proofs.pending.Pending.settle.Goals as goal

pub overflow_sub-self : goal.overflow_sub-self
overflow_sub-self c =
    let slots = c.self.inside.slots.items in
    let found = ap (λ s. find c.args.id (kept s)) (sym c.deref.ensures.value) ∙ sym c.in-Some.ensures.found in
    omega (arith, sum_without live_cost c.args.id (kept slots) c.in-Some.place found, c.self.invariant.live, c.live_cost.ensures)

pub overflow_sub-self-in-Some : goal.overflow_sub-self-in-Some
overflow_sub-self-in-Some c =
    let slots = c.self.inside.slots.items in
    let found = ap (λ s. find c.args.id (kept s)) (sym c.deref.ensures.value) ∙ sym c.in-Some.ensures.found in
    omega (arith, sum_without compacted_cost c.args.id (kept slots) c.in-Some.place found, c.self.invariant.compacted, c.compacted_cost.ensures)

pub invariant_of-self : goal.invariant_of-self
invariant_of-self c =
    let slots = c.self.inside.slots.items in
    let p = c.in-Some.place in
    let found = ap (λ s. find c.args.id (kept s)) (sym c.deref.ensures.value) ∙ sym c.in-Some.ensures.found in
    let left : kept c.vacate.new.slots.items ≡ without c.args.id (kept slots) =
    c.vacate.ensures.kept ∙ ap (λ i. without i (kept slots)) c.in-Some.ensures.slot.1 in
    record {
      right = c.vacate.ensures.right;
      live = omega (arith, sum_without live_cost c.args.id (kept slots) p found, c.self.invariant.live, c.live_cost.ensures, ap live_size left);
      compacted =
          omega (arith, sum_without compacted_cost c.args.id (kept slots) p found, c.self.invariant.compacted, c.compacted_cost.ensures, ap compacted_size left);
    }

pub returns-in_default : goal.returns-in_default
returns-in_default c =
    let slots = c.self.inside.slots.items in
    let none = ap (λ s. find c.args.id (kept s)) (sym c.deref.ensures.value) ∙ sym c.in_default.ensures.found in
    absurd (true≢false (sym c.requires ∙ ap (has c.args.id) (sym c.self.view_is) ∙ sym (has-find c.args.id (kept slots)) ∙ ap is_some none))
