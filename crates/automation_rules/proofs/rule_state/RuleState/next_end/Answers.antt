use Rattle.std.proofs.Common.{◌<◌, ◌∙◌, ap, nat_le, length, filter, rules}
use Rattle.std.specs.List.{list_any}
use Rattle.automation_rules.specs.declared.firing.Firing.{Firing}
use Rattle.automation_rules.specs.Memory.{RuleMemory, is_live}
use Rattle.automation_rules.proofs.FiringLemmas.{first_tells}
use Rattle.automation_rules.proofs.rule_state.RuleState.next_end.Goals as goal

pub returns : goal.returns
returns c u =
    let items = c.self.inside.firings.items in
    let x = c.in_ok-first.first.now in
    let within : c.first_live.result < length items = search rules in
    first_tells u c.first_live.result items x c.self.invariant within c.in_ok-first.ensures.lookup
    ∙ ap (list_any (λ (f : Firing). nat_le f.end u)) (c.first_live.ensures.live ∙ ap (λ (s : RuleMemory). filter (is_live c.args.t) s.firings) c.self.view_is)
