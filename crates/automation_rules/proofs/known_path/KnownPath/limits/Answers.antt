use Rattle.std.proofs.Common.{refl, filter, ap, ◌∙◌}
use Rattle.std.specs.List.{list_any}
use Rattle.policy_core.specs.PathOptions.{in_force_of}
use Rattle.policy_core.specs.Automation.{limits_of, numbered_rules}
use Rattle.automation_rules.specs.Memory.{PathMemory, is_live}
use Rattle.automation_rules.specs.inside.Setting.{with_rules}
use Rattle.automation_rules.specs.inside.Showing.{firings_at}
use Rattle.automation_rules.proofs.RuleWalks.{with_rules-in_force}
use Rattle.automation_rules.proofs.known_path.KnownPath.limits.Goals as goal

pub returns : goal.returns
unfolding limits_of
returns c =
    let p = c.args.self.now in
    let rules = filter (λ r. list_any (is_live c.args.t) (firings_at p.rules r.0)) (numbered_rules p.base) in
    c.set_by_rules.ensures
    ∙ ap (with_rules rules) (c.of-now.ensures ∙ ap (λ (q : PathMemory). in_force_of q.base.options) c.self.view_is)
    ∙ with_rules-in_force rules (in_force_of p.base.options) refl refl
