-- The text so far and the lines of the rules that are left.
use Rattle.std.proofs.Common.{◌≡◌, ◌+◌, ◌++◌, drop}
use Rattle.shaping_merge.specs.ExplainText.{rule_lines}
use Rattle.shaping_merge.proofs.explain.push_rules.Given as goal

abbrev pub invariant-loop-index : goal.invariant-loop-index
invariant-loop-index l = l.text ++ rule_lines (l.index + 1) (drop l.index l.rules) ≡ l.fn.text ++ rule_lines 1 l.rules
