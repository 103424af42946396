use Rattle.std.proofs.Common.{◌≡◌, ◌+◌, drop, codes}
use Rattle.toml.specs.View.{items_view}
use Rattle.policy_toml.specs.Places.{first_of}
use Rattle.shaping_policy.specs.RuleValues.{action_at}
use Rattle.shaping_policy.specs.Faults.{faults_from}
use Rattle.shaping_policy.proofs.rule_faults.note_each.Given as goal

abbrev pub invariant-loop-index : goal.invariant-loop-index
invariant-loop-index l =
    first_of l.faults (faults_from action_at l.place l.number (codes "action") (l.index + 1) (items_view (drop l.index l.actions))) ≡ first_of l.fn.faults (faults_from action_at l.place l.number (codes "action") 1 (items_view l.actions))
