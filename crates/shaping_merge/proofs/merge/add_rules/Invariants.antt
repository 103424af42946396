use Rattle.std.proofs.Common.{◌≡◌, ◌++◌, take}
use Rattle.shaping_merge.proofs.merge.add_rules.Given as goal

abbrev pub invariant-loop-rule : goal.invariant-loop-rule
invariant-loop-rule l = l.rules.items ≡ l.fn.rules.items ++ take l.rule-index l.more
