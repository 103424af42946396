use Rattle.std.proofs.Common.{◌≡◌, ◌+◌, ◌≤◌, drop, map, filter, count_by, nat_lt}
use Rattle.kumo_base.specs.Moment.{clamped}
use Rattle.history_core.specs.Firing.{is_same_rule}
use Rattle.history_automation.proofs.replies.count_within.Given as goal

abbrev pub invariant-loop-was : goal.invariant-loop-was
invariant-loop-was l = record {
  same : l.count + count_by (λ s. nat_lt l.found.at (clamped (s + l.period))) (map (λ was. was.at) (filter (is_same_rule l.found) (drop l.was-index l.matches)))
      ≡ count_by (λ s. nat_lt l.found.at (clamped (s + l.period))) (map (λ was. was.at) (filter (is_same_rule l.found) l.matches));
  few : l.count ≤ l.was-index;
}
