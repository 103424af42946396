use Rattle.std.proofs.Common.{◌≡◌, ◌+◌, drop, filter}
use Rattle.std.specs.List.{enumerate_from}
use Rattle.history_core.specs.Firing.{is_in_force}
use Rattle.history_core.specs.Limits.{is_rule_among}
use Rattle.history_automation.specs.inside.Setting.{with_rules}
use Rattle.history_automation.proofs.limits.set_by_rules.Given as goal

abbrev pub invariant-loop-index : goal.invariant-loop-index
invariant-loop-index l =
    with_rules (filter (λ r. is_rule_among (filter (is_in_force l.t) l.firings) l.path r.0) (enumerate_from (l.index + 1) (drop l.index l.rules))) l.now
    ≡ with_rules (filter (λ r. is_rule_among (filter (is_in_force l.t) l.firings) l.path r.0) (enumerate_from 1 l.rules)) l.fn.now
