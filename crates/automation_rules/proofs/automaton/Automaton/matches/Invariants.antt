use Rattle.std.proofs.Common.{◌≡◌, ◌≤◌, drop, unwrap_or, false}
use Rattle.std.specs.List.{list_any}
use Rattle.kumo_outside.specs.Search.{found}
use Rattle.automation_rules.proofs.automaton.Automaton.matches.Given as goal

abbrev pub invariant-loop-pattern : goal.invariant-loop-pattern
invariant-loop-pattern g l = record {
  same : list_any (λ pattern. unwrap_or (found pattern l.text) false) l.rule.patterns
      ≡ list_any (λ pattern. unwrap_or (found pattern l.text) false) (drop l.pattern-index l.rule.patterns);
  later : (g.S.Search.seen l.fn.search).faults ≤ (g.S.Search.seen l.search).faults;
}
