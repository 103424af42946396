use Rattle.std.proofs.Common.{◌≡◌, ◌+◌, ◌≤◌, drop, codes}
use Rattle.toml.specs.View.{items_view}
use Rattle.policy_toml.specs.Places.{first_of}
use Rattle.shaping_policy.specs.RuleValues.{pattern_at}
use Rattle.shaping_policy.specs.Faults.{faults_from}
use Rattle.shaping_policy.proofs.patterns.note_items.Given as goal

abbrev pub invariant-loop-index : goal.invariant-loop-index
invariant-loop-index g l = record {
  same : first_of l.faults (faults_from pattern_at l.rule.place l.rule.number (codes "regex") (l.index + 1) (items_view (drop l.index l.items)))
      ≡ first_of l.fn.faults (faults_from pattern_at l.rule.place l.rule.number (codes "regex") 1 (items_view l.items));
  later : (g.S.Search.seen l.fn.search).faults ≤ (g.S.Search.seen l.search).faults;
}
