use Rattle.std.proofs.Common.{◌≡◌, ◌∙◌, ◌+◌, ◌∷◌, ◌++◌, [], sym, ap, subst, take}
use Rattle.std.proofs.lemmas.List.{take_more}
use Rattle.history_core.specs.Limits.{opened_moments}
use Rattle.history_automation.specs.inside.Filled.{IsFilled}
use Rattle.history_automation.proofs.OneMore.{opened_moments-more}
use Rattle.history_automation.proofs.rates.opened_bucket.Goals as goal

pub loop-entry-preserved : goal.loop-entry-preserved
loop-entry-preserved c =
    let h = c.args.entries.now in
    let i = c.loop-entry.entry-index in
    let e = c.entry-item.result in
    let text = c.args.text.now in
    let longer : take (i + 1) h ≡ take i h ++ e ∷ [] = take_more h i e c.loop-entry-test.true ∙ ap (λ x. take i h ++ x ∷ []) (sym c.entry-item.is) in
    let more : opened_moments (take (i + 1) h) text c.args.key ≡ opened_moments (take i h) text c.args.key ++ opened_moments (e ∷ []) text c.args.key =
    ap (λ g. opened_moments g text c.args.key) longer ∙ opened_moments-more (take i h) e text c.args.key in
    subst (λ ms. IsFilled c.args.rate.now ms c.with_moment-filled.result) (ap (λ added. opened_moments (take i h) text c.args.key ++ added) c.opening_moment.ensures ∙ sym more)
    (c.with_moment-filled.ensures (opened_moments (take i h) text c.args.key) c.loop-entry.invariant)
