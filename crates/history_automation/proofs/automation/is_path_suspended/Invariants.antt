use Rattle.std.proofs.Common.{◌≡◌, ◌&&◌, drop, filter}
use Rattle.std.specs.List.{list_any}
use Rattle.policy_core.specs.Automation.{is_suspend}
use Rattle.history_core.specs.History.{is_same_path}
use Rattle.history_core.specs.Firing.{is_in_force}
use Rattle.history_automation.proofs.automation.is_path_suspended.Given as goal

abbrev pub invariant-loop-firing : goal.invariant-loop-firing
invariant-loop-firing l =
    list_any (λ f. is_suspend f.rule.action && is_same_path f.path l.path) (filter (is_in_force l.t) l.firings)
    ≡ list_any (λ f. is_suspend f.rule.action && is_same_path f.path l.path) (filter (is_in_force l.t) (drop l.firing-index l.firings))
