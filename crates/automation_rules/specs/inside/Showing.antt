-- What the rules of a path do by the firings that are kept of each.
use Rattle.std.specs.Prelude.{ℕ, ◌-◌, Bool, ◌&&◌, List, [], filter, slice_index_or, nat_le}
use Rattle.std.specs.List.{list_any}
use Rattle.policy_core.specs.Automation.{covers, is_suspend, numbered_rules}
use Rattle.policy_core.specs.declared.rules.Rule.{Rule}
use Rattle.queue_name.specs.QueueName.{Name}
use Rattle.automation_rules.specs.declared.firing.Firing.{Firing}
use Rattle.automation_rules.specs.Memory.{RuleMemory, PathMemory, is_live, name_kept}

-- the firings that are kept of the rule of a number
abbrev pub firings_at : List RuleMemory → ℕ → List Firing
firings_at rules number = (slice_index_or rules (number - 1) (record { most = 0; moments = []; firings = [] })).firings

-- a rule that is in force suspends its path
abbrev pub halts_by : ℕ → (ℕ → List Firing) → ℕ × Rule → Bool
halts_by t fired r = is_suspend r.1.action && list_any (is_live t) (fired r.0)

-- some firing of a rule that is not over holds back the messages of a queue
abbrev pub covers_by : ℕ → Name → (ℕ → List Firing) → ℕ × Rule → Bool
covers_by t name fired r = list_any (λ f. covers r.1.action (name_kept f) name) (filter (is_live t) (fired r.0))

-- some firing of a rule that is not over ends by a moment
abbrev pub ends_by : ℕ → ℕ → (ℕ → List Firing) → ℕ × Rule → Bool
ends_by t u fired r = list_any (λ f. nat_le f.end u) (filter (is_live t) (fired r.0))

-- some firing of a path that is not over holds back the messages of a queue, or ends by a moment
abbrev pub is_covering_path : ℕ → Name → PathMemory → Bool
is_covering_path t name p = list_any (covers_by t name (firings_at p.rules)) (numbered_rules p.base)

abbrev pub is_ending_path : ℕ → ℕ → PathMemory → Bool
is_ending_path t u p = list_any (ends_by t u (firings_at p.rules)) (numbered_rules p.base)
