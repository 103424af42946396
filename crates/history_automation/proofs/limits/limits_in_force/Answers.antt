use Rattle.std.proofs.Common.{refl, filter}
use Rattle.policy_core.specs.PathOptions.{in_force_of}
use Rattle.policy_core.specs.Automation.{limits_of, numbered_rules}
use Rattle.history_core.specs.Firing.{is_in_force}
use Rattle.history_core.specs.Limits.{is_rule_among}
use Rattle.history_automation.proofs.RuleWalks.{with_rules-in_force}
use Rattle.history_automation.proofs.limits.limits_in_force.Goals as goal

pub returns : goal.returns
unfolding limits_of
returns c =
    let rules = filter (λ r. is_rule_among (filter (is_in_force c.args.t) c.args.firings.now) c.args.path.now r.0) (numbered_rules c.args.base.now) in
    rw (c.set_by_rules.ensures, c.as_slice.ensures, c.of-now.ensures) (with_rules-in_force rules (in_force_of c.args.base.now.options) refl refl)
