use Rattle.std.proofs.Common.{◌≤◌, take}
use Rattle.history_automation.specs.Examined.{IsExamined}
use Rattle.history_walk.proofs.legal.examined.Given as goal

abbrev pub invariant-loop-place : goal.invariant-loop-place
invariant-loop-place g l = record {
  found : IsExamined l.policy (take l.place l.entries) l.found;
  later : (g.S.Search.seen l.fn.search).faults ≤ (g.S.Search.seen l.search).faults;
}
