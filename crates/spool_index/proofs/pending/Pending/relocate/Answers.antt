use Rattle.std.proofs.Common.{◌≡◌, length, sym, ap, ◌∙◌, subst}
use Rattle.std.specs.Vec.{with_items}
use Rattle.std.proofs.lemmas.List.{with_items_is}
use Rattle.spool_index.specs.Places.{live_size, compacted_size, laid_out}
use Rattle.spool_index.specs.Slots.{kept, slots_laid_out, IsIndex}
use Rattle.spool_index.proofs.PlaceLemmas.{live_size_laid_out, compacted_size_laid_out}
use Rattle.spool_index.proofs.KeptLemmas.{kept_laid_out, length_slots_laid_out}
use Rattle.spool_index.proofs.IndexLemmas.{relocated}
use Rattle.spool_index.proofs.pending.Pending.relocate.Goals as goal

pub invariant_of-self : goal.invariant_of-self
invariant_of-self c =
    let slots = c.self.inside.slots in
    let len = ap length c.lay_out.ensures ∙ length_slots_laid_out 16 c.deref_mut.result.now ∙ c.deref_mut.ensures.len in
    let items : (with_items slots c.lay_out.new.slots).items ≡ slots_laid_out 16 slots.items =
    with_items_is slots c.lay_out.new.slots len ∙ c.lay_out.ensures ∙ ap (slots_laid_out 16) c.deref_mut.ensures.value in
    let all = ap kept items ∙ kept_laid_out 16 slots.items in
    record {
      right = subst (λ s. IsIndex c.self.inside.index s) (sym items) (relocated c.self.inside.index 16 slots.items c.self.invariant.right);
      live = c.self.invariant.live ∙ sym (live_size_laid_out 16 (kept slots.items)) ∙ ap live_size (sym all);
      compacted =
          c.self.invariant.compacted ∙ sym (compacted_size_laid_out 16 (kept slots.items)) ∙ ap compacted_size (sym all);
    }

pub returns : goal.returns
returns c =
    let slots = c.self.inside.slots in
    let len = ap length c.lay_out.ensures ∙ length_slots_laid_out 16 c.deref_mut.result.now ∙ c.deref_mut.ensures.len in
    ap kept (with_items_is slots c.lay_out.new.slots len ∙ c.lay_out.ensures ∙ ap (slots_laid_out 16) c.deref_mut.ensures.value)
    ∙ kept_laid_out 16 slots.items ∙ ap (laid_out 16) c.self.view_is
