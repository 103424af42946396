use Rattle.std.proofs.Common.{◌≡◌, Some, None, get_or, set, is_some, refl, sym, ap, ◌∙◌, arith}
use Rattle.std.proofs.lemmas.Bool.{true≢false}
use Rattle.spool_index.specs.Places.{has, find, with_delay, delayed, live_size, compacted_size, live_cost, compacted_cost}
use Rattle.spool_index.specs.Slots.{kept}
use Rattle.spool_index.proofs.PlaceLemmas.{has-find, sum_without, sum_delay, compacted_within}
use Rattle.spool_index.proofs.IndexLemmas.{rewritten, delay_held}
use Rattle.spool_index.proofs.pending.Pending.delay.Goals as goal

pub overflow_sub-self : goal.overflow_sub-self
overflow_sub-self c =
    let slots = c.self.inside.slots.items in
    let found = ap (λ s. find c.args.id (kept s)) (sym c.deref.ensures.value) ∙ sym c.in-Some.ensures.found in
    omega (arith, sum_without compacted_cost c.args.id (kept slots) c.in-Some.place found, c.self.invariant.compacted, c.compacted_cost.ensures)

pub overflow_add-self : goal.overflow_add-self
overflow_add-self c =
    let a = c.args in
    let slots = c.self.inside.slots.items in
    let p = c.in-Some.place in
    let found = ap (λ s. find a.id (kept s)) (sym c.deref.ensures.value) ∙ sym c.in-Some.ensures.found in
    let first = sum_without compacted_cost a.id (kept slots) p found in
    let live = sum_delay live_cost a.id a.failures a.due (kept slots) p found in
    let compacted = sum_delay compacted_cost a.id a.failures a.due (kept slots) p found in
    let within = compacted_within (with_delay a.id a.failures a.due (kept slots)) in
    let range = c.self.ranges in
    omega (arith, first, live, compacted, within, c.self.invariant.live, c.self.invariant.compacted, c.compacted_cost.ensures, c.compacted_cost-in-Some.ensures)

pub invariant_of-self : goal.invariant_of-self
invariant_of-self c =
    let a = c.args in
    let slots = c.self.inside.slots.items in
    let p = c.in-Some.place in
    let found = ap (λ s. find a.id (kept s)) (sym c.deref.ensures.value) ∙ sym c.in-Some.ensures.found in
    let here = ap (λ s. get_or s c.in-Some.slot None) (sym c.deref.ensures.value) ∙ c.in-Some.ensures.slot.0 in
    let later : kept (set slots c.in-Some.slot (Some (delayed a.failures a.due p))) ≡ with_delay a.id a.failures a.due (kept slots) =
    delay_held slots a.id a.failures a.due c.in-Some.slot p c.self.invariant.right.distinct here c.in-Some.ensures.slot.1 in
    let first = sum_without compacted_cost a.id (kept slots) p found in
    let live = sum_delay live_cost a.id a.failures a.due (kept slots) p found in
    let compacted = sum_delay compacted_cost a.id a.failures a.due (kept slots) p found in
    record {
      right = rewritten c.self.inside.index slots c.in-Some.slot p (delayed a.failures a.due p) c.self.invariant.right here refl;
      live = omega (arith, live, c.self.invariant.live, ap live_size later);
      compacted =
          omega (arith, first, compacted, c.self.invariant.compacted, c.compacted_cost.ensures, c.compacted_cost-in-Some.ensures, ap compacted_size later);
    }

pub returns-in-Some : goal.returns-in-Some
returns-in-Some c =
    let a = c.args in
    let slots = c.self.inside.slots.items in
    let here = ap (λ s. get_or s c.in-Some.slot None) (sym c.deref.ensures.value) ∙ c.in-Some.ensures.slot.0 in
    delay_held slots a.id a.failures a.due c.in-Some.slot c.in-Some.place c.self.invariant.right.distinct here c.in-Some.ensures.slot.1
    ∙ ap (with_delay a.id a.failures a.due) c.self.view_is

pub returns-in_default : goal.returns-in_default
returns-in_default c =
    let slots = c.self.inside.slots.items in
    let none = ap (λ s. find c.args.id (kept s)) (sym c.deref.ensures.value) ∙ sym c.in_default.ensures.found in
    absurd (true≢false (sym c.requires ∙ ap (has c.args.id) (sym c.self.view_is) ∙ sym (has-find c.args.id (kept slots)) ∙ ap is_some none))
