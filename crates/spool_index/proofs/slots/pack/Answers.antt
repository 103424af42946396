use Rattle.std.proofs.Common.{is_some, length, sym, ap, ◌∙◌, rules}
use Rattle.std.proofs.lemmas.Fn.{filter_same}
use Rattle.spool_index.specs.Places.{has, are_distinct}
use Rattle.spool_index.specs.Slots.{kept}
use Rattle.spool_index.proofs.KeptLemmas.{kept-filter}
use Rattle.spool_index.proofs.slots.pack.Goals as goal

pub returns-clause-kept : goal.returns-clause-kept
returns-clause-kept c =
    ap kept (filter_same _ is_some _ (λ x r f' k. search rules) _ _ c.retain.ensures.filtered) ∙ kept-filter c.args.slots.now.items

pub number-requires-clause-knows : goal.number-requires-clause-knows
number-requires-clause-knows c id =
    let same = ap kept (c.deref.ensures.value ∙ filter_same _ is_some _ (λ x r f' k. search rules) _ _ c.retain.ensures.filtered) ∙ kept-filter c.args.slots.now.items in
    c.requires.knows id ∙ ap (has id) (sym same)

pub number-requires-clause-count : goal.number-requires-clause-count
number-requires-clause-count c =
    let same = ap kept (c.deref.ensures.value ∙ filter_same _ is_some _ (λ x r f' k. search rules) _ _ c.retain.ensures.filtered) ∙ kept-filter c.args.slots.now.items in
    c.requires.count ∙ ap length (sym same)

pub number-requires-clause-distinct : goal.number-requires-clause-distinct
number-requires-clause-distinct c =
    let same = ap kept (c.deref.ensures.value ∙ filter_same _ is_some _ (λ x r f' k. search rules) _ _ c.retain.ensures.filtered) ∙ kept-filter c.args.slots.now.items in
    ap are_distinct same ∙ c.requires.distinct
