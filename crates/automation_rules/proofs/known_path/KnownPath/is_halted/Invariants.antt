use Rattle.std.proofs.Common.{◌≡◌, ◌+◌, drop}
use Rattle.std.specs.List.{list_any, enumerate_from}
use Rattle.policy_core.specs.Automation.{numbered_rules}
use Rattle.automation_rules.specs.inside.Showing.{firings_at, halts_by}
use Rattle.automation_rules.proofs.known_path.KnownPath.is_halted.Given as goal

abbrev pub invariant-loop-place : goal.invariant-loop-place
invariant-loop-place l =
    list_any (halts_by l.t (firings_at l.self.rules)) (numbered_rules l.self.base) ≡ list_any (halts_by l.t (firings_at l.self.rules)) (enumerate_from (l.place + 1) (drop l.place l.self.base.rules))
