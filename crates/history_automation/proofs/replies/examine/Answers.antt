use Rattle.std.proofs.Common.{◌≡◌, ◌∙◌, ◌+◌, ◌∷◌, ◌++◌, [], sym, ap, subst, take}
use Rattle.std.proofs.lemmas.List.{take_more}
use Rattle.history_automation.specs.Examined.{IsExamined}
use Rattle.history_automation.proofs.MatchWalks.{examined_more}
use Rattle.history_automation.proofs.replies.examine.Goals as goal

pub returns-in-Ok-clause-ok : goal.returns-in-Ok-clause-ok
returns-in-Ok-clause-ok g c =
    let h = c.args.entries.now in
    let place = c.args.place in
    let e = c.index-entries-place.result in
    let longer : take (place + 1) h ≡ take place h ++ e ∷ [] = take_more h place e c.requires.within ∙ ap (λ x. take place h ++ x ∷ []) (sym c.index-entries-place.is) in
    subst (λ g. IsExamined c.args.policy.now g c.add_found.new.examined) (sym longer)
    (examined_more c.args.policy.now (take place h) e c.args.examined.now c.add_found.new.examined c.in_ok-found.found.items
    c.requires.so_far c.in_ok-found.ensures.items c.in-Ok.ensures.matches c.in-Ok.ensures.firings)
