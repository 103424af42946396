use Rattle.std.proofs.Common.{◌≡◌, ◌<◌, ◌-◌, length, get_or, deque_len, ap, ◌∙◌, rules}
use Rattle.std.specs.List.{list_any}
use Rattle.automation_rules.specs.Memory.{RuleMemory, is_live}
use Rattle.automation_rules.proofs.FiringLemmas.{last_tells}
use Rattle.automation_rules.proofs.rule_state.RuleState.is_in_force.Goals as goal

pub returns-in-Some : goal.returns-in-Some
returns-in-Some c =
    let items = c.self.inside.firings.items in
    let some : 0 < length items = search rules in
    let long : deque_len c.self.inside.firings ≡ length items = search rules in
    let at = c.in-Some.ensures.lookup ∙ ap (λ n. get_or items (n - 1) c.in-Some.last.now) long in
    last_tells c.args.t items c.in-Some.last.now c.self.invariant some at
    ∙ ap (λ (s : RuleMemory). list_any (is_live c.args.t) s.firings) c.self.view_is
