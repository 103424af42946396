use Rattle.std.proofs.Common.{◌≡◌, ◌||◌, ℕ, drop}
use Rattle.std.specs.List.{list_any}
use Rattle.automation_rules.specs.inside.Noting.{is_by}
use Rattle.automation_rules.specs.inside.Showing.{is_ending_path}
use Rattle.automation_rules.proofs.automaton.next_end_among.Given as goal

abbrev pub invariant-loop-known : goal.invariant-loop-known
invariant-loop-known l =
    (u : ℕ) → list_any (is_ending_path l.t u) l.paths
    ≡ (is_by u l.least || list_any (is_ending_path l.t u) (drop l.known-index l.paths))
