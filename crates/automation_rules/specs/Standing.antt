-- What an automaton stands for: the matches that it was told, in their order.
use Rattle.std.specs.Prelude.{◌≡◌, ◌≤◌, ◌<◌, ◌+◌, ℕ, List, Some, length, map, filter, slice_index_or}
use Rattle.std.specs.List.{All, AllByRecursion}
use Rattle.circular_buffer.specs.Buffer.{keep_last}
use Rattle.policy_core.specs.LiveOrders.{end_of}
use Rattle.policy_core.specs.declared.rules.Rule.{Rule}
use Rattle.automation_rules.specs.declared.firing.Firing.{Firing}
use Rattle.automation_rules.specs.Memory.{RuleMemory, PathMemory, IsAscending, looks_back, is_live, last_end, kept_firing}
use Rattle.automation_rules.specs.Matches.{PathRules, Noted, rule_at, is_of, moments_of, firings_of}

-- the paths that were added, in their order
abbrev pub paths_of : List PathMemory → List PathRules
paths_of state = map (λ p. record { base = p.base; site = p.site }) state

-- what is kept of a firing
abbrev pub kept_of : Noted → Firing
kept_of f = kept_firing f.rule.action (end_of f.at f.rule.duration) f.name

-- the firings of a rule of a path, as they are kept
abbrev pub kept_firings : ℕ → ℕ → List Noted → List Firing
kept_firings path number matches = map kept_of (filter (is_of path number) (firings_of matches))

-- a rule's state keeps of the moments of its matches the last ones, as many as its trigger looks back on, and of its firings those
-- that may not be over at the last moment or after it
pub record RuleStandsFor (rule : Rule) (s : RuleMemory) (moments : List ℕ) (fired : List Firing) : Type 0 where
  pub most : s.most ≡ looks_back rule.trigger
  pub kept : s.moments ≡ keep_last (looks_back rule.trigger) moments
  pub order : IsAscending moments
  pub last : (t : ℕ) → AllByRecursion (λ s. s ≤ t) moments → last_end s.firings ≤ end_of t rule.duration
  pub live : (t : ℕ) → AllByRecursion (λ s. s ≤ t) moments → filter (is_live t) s.firings ≡ filter (is_live t) fired

-- each match is of a rule that is there, and the state of each rule stands for that rule's matches
pub record StandsFor (state : List PathMemory) (matches : List Noted) : Type 0 where
  pub known : All (λ m. rule_at (paths_of state) m.path m.number ≡ Some m.rule) matches
  pub whole : All (λ p. length p.rules ≡ length p.base.rules) state
  pub rules : (path place : ℕ) (p : PathMemory) (x : Rule) (s : RuleMemory)
      → path < length state → p ≡ slice_index_or state path p
      → place < length p.rules → x ≡ slice_index_or p.base.rules place x → s ≡ slice_index_or p.rules place s
      → RuleStandsFor x s (moments_of path (place + 1) matches) (kept_firings path (place + 1) matches)
