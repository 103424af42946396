use Rattle.std.proofs.Common.{◌≡◌, drop}
use Rattle.std.specs.List.{list_any}
use Rattle.policy_core.specs.Automation.{covers}
use Rattle.automation_rules.specs.Memory.{name_kept}
use Rattle.automation_rules.proofs.rule_state.covers_from.Given as goal

abbrev pub invariant-loop-place : goal.invariant-loop-place
invariant-loop-place l =
    list_any (λ f. covers l.action (name_kept f) l.name) (drop l.from l.firings.items)
    ≡ list_any (λ f. covers l.action (name_kept f) l.name) (drop l.place l.firings.items)
