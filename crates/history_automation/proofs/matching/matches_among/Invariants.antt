use Rattle.std.proofs.Common.{◌≡◌, ◌+◌, ◌++◌, ◌≤◌, drop}
use Rattle.history_automation.specs.inside.Refused.{refusal_of, matches_from}
use Rattle.history_automation.proofs.matching.matches_among.Given as goal

abbrev pub invariant-loop-index : goal.invariant-loop-index
invariant-loop-index g l = record {
  same : l.found.items ++ matches_from (refusal_of l.refusal) (l.index + 1) (drop l.index l.rules) ≡ matches_from (refusal_of l.refusal) 1 l.rules;
  later : (g.S.Search.seen l.fn.search).faults ≤ (g.S.Search.seen l.search).faults;
}
