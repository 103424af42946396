use Rattle.std.proofs.Common.{◌≡◌, length}
use Rattle.automation_rules.specs.inside.Noting.{without_over}
use Rattle.automation_rules.proofs.rule_state.drop_over.Given as goal

abbrev pub invariant-loop-first : goal.invariant-loop-first
invariant-loop-first l = without_over l.t l.firings.items ≡ without_over l.t l.fn.firings.items

abbrev pub decreases-loop-first : goal.decreases-loop-first
decreases-loop-first l = length l.firings.items
