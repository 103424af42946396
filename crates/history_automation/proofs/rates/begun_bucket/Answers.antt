use Rattle.std.proofs.Common.{◌≡◌, ◌∙◌, ◌+◌, ◌∷◌, ◌++◌, [], sym, ap, subst, take}
use Rattle.std.proofs.lemmas.List.{take_more}
use Rattle.history_core.specs.Limits.{begun_moments, begun_at}
use Rattle.history_automation.specs.inside.Filled.{IsFilled}
use Rattle.history_automation.proofs.OneMore.{along-more}
use Rattle.history_automation.proofs.rates.begun_bucket.Goals as goal

pub loop-place-preserved : goal.loop-place-preserved
loop-place-preserved c =
    let h = c.args.entries.now in
    let i = c.loop-place.place in
    let e = c.index-entries-place.result in
    let text = c.args.text.now in
    let longer : take (i + 1) h ≡ take i h ++ e ∷ [] = take_more h i e c.loop-place-test.true ∙ ap (λ x. take i h ++ x ∷ []) (sym c.index-entries-place.is) in
    let more : begun_moments (take (i + 1) h) text c.args.key ≡ begun_moments (take i h) text c.args.key ++ begun_at text c.args.key (take i h) e =
    ap (λ g. begun_moments g text c.args.key) longer ∙ along-more (begun_at text c.args.key) (take i h) e in
    subst (λ ms. IsFilled c.args.rate.now ms c.with_moment-filled.result) (ap (λ added. begun_moments (take i h) text c.args.key ++ added) c.beginning_moment-moment.ensures ∙ sym more)
    (c.with_moment-filled.ensures (begun_moments (take i h) text c.args.key) c.loop-place.invariant)
