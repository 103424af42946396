use Rattle.std.proofs.Common.{◌≡◌, ◌+◌, drop, filter}
use Rattle.std.specs.List.{list_any, enumerate_from}
use Rattle.policy_core.specs.Automation.{numbered_rules}
use Rattle.automation_rules.specs.Memory.{is_live}
use Rattle.automation_rules.specs.inside.Setting.{with_rules}
use Rattle.automation_rules.specs.inside.Showing.{firings_at}
use Rattle.automation_rules.proofs.known_path.KnownPath.set_by_rules.Given as goal

abbrev pub invariant-loop-place : goal.invariant-loop-place
invariant-loop-place l =
    with_rules (filter (λ r. list_any (is_live l.t) (firings_at l.self.rules r.0)) (enumerate_from (l.place + 1) (drop l.place l.self.base.rules))) l.now
    ≡ with_rules (filter (λ r. list_any (is_live l.t) (firings_at l.self.rules r.0)) (numbered_rules l.self.base)) l.fn.now
