use Rattle.std.proofs.Common.{◌∷◌, ◌++◌, [], ap, sym, ◌∙◌, subst, map}
use Rattle.automation_rules.specs.Memory.{PathMemory, blank_rule}
use Rattle.automation_rules.specs.Standing.{StandsFor}
use Rattle.automation_rules.proofs.StandingSteps.{stands_added}
use Rattle.automation_rules.proofs.automaton.Automaton.add_path.Goals as goal

pub returns-clause-stands : goal.returns-clause-stands
returns-clause-stands c matches stands =
    let p = c.in_ok-path.path in
    let made = c.in_ok-path.ensures in
    let blank = ap (λ (q : PathMemory). q.rules) made ∙ ap (λ (q : PathMemory). map blank_rule q.base.rules) (sym made) in
    let is = c.in_ok-push.ensures.items ∙ ap (λ ps. ps ++ p ∷ []) c.self.view_is in
    subst (λ ps. StandsFor ps matches) (sym is) (stands_added c.args.self.now matches p stands blank)
