use Rattle.std.proofs.Common.{◌≡◌, ◌++◌, ◌∷◌, [], ap, sym, ◌∙◌, arith}
use Rattle.policy_core.specs.Automation.{is_fired}
use Rattle.automation_rules.specs.Memory.{looks_back}
use Rattle.circular_buffer.specs.Buffer.{keep_last}
use Rattle.automation_rules.proofs.WindowLemmas.{window}
use Rattle.automation_rules.proofs.ring.Ring.fires.Goals as goal

pub returns-else-count-eq0 : goal.returns-else-count-eq0
returns-else-count-eq0 c moments last order =
    let is = c.in-Threshold.is in
    let ring : c.self.inside.moments.items ≡ keep_last c.in-Threshold.count moments = ap (λ s. s.moments) c.self.view_is ∙ last ∙ ap (λ t. keep_last (looks_back t) moments) is in
    c.is_reached.ensures
    ∙ window c.in-Threshold.count c.in-Threshold.period c.args.t c.self.inside.moments.items moments ring order (omega (arith, c.if-count-eq0.false))
    ∙ sym (ap (λ t. is_fired t (moments ++ c.args.t ∷ []) c.args.t) is)
