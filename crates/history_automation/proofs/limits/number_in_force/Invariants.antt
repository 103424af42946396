use Rattle.std.proofs.Common.{◌≡◌, drop, filter}
use Rattle.history_core.specs.Firing.{is_in_force}
use Rattle.history_core.specs.Limits.{is_rule_among}
use Rattle.history_automation.proofs.limits.number_in_force.Given as goal

abbrev pub invariant-loop-firing : goal.invariant-loop-firing
invariant-loop-firing l =
    is_rule_among (filter (is_in_force l.t) l.firings) l.path l.number
    ≡ is_rule_among (filter (is_in_force l.t) (drop l.firing-index l.firings)) l.path l.number
