-- A refusal as the code holds it, and the rules of a list that match one.
use Rattle.std.specs.Prelude.{ℕ, List, map, filter}
use Rattle.std.specs.List.{enumerate_from}
use Rattle.policy_core.specs.declared.rules.Rule.{Rule}
use Rattle.history_core.specs.declared.rule_match.RuleMatch.{RuleMatch}
use Rattle.history_core.specs.Firing.{Refusal, is_matched}
use Rattle.history_automation.specs.declared.matching.Refusal as held

abbrev pub refusal_of : held.Refusal → Refusal
refusal_of r = record { at = r.at; text = r.text; path = r.path; name = r.name }

-- rules counted from a number on
unfoldable pub matches_from : Refusal → ℕ → List Rule → List RuleMatch
matches_from r number rules =
    map (λ rule. record { at = r.at; path = r.path; number = rule.0; rule = rule.1; name = r.name })
    (filter (λ rule. is_matched r.text rule.1) (enumerate_from number rules))
