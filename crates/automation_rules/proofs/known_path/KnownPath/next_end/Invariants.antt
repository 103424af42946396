use Rattle.std.proofs.Common.{◌≡◌, ◌+◌, ◌||◌, ℕ, drop}
use Rattle.std.specs.List.{list_any, enumerate_from}
use Rattle.policy_core.specs.Automation.{numbered_rules}
use Rattle.automation_rules.specs.inside.Noting.{is_by}
use Rattle.automation_rules.specs.inside.Showing.{firings_at, ends_by}
use Rattle.automation_rules.proofs.known_path.KnownPath.next_end.Given as goal

abbrev pub invariant-loop-place : goal.invariant-loop-place
invariant-loop-place l =
    (u : ℕ) → list_any (ends_by l.t u (firings_at l.self.rules)) (numbered_rules l.self.base)
    ≡ (is_by u l.least || list_any (ends_by l.t u (firings_at l.self.rules)) (enumerate_from (l.place + 1) (drop l.place l.self.base.rules)))
