-- Matches of the rules of paths in the order in which they were noted, which of them fired their rules, and what is in force by
-- these firings (KumoMTA's manual, the shaping helper's automation).
use Rattle.std.specs.Prelude.{◌≤◌, ℕ, ◌-◌, ◌==◌, List, [], ◌∷◌, ◌++◌, Bool, false, ◌&&◌, Option, Some, None, min, map, filter, slice_get, is_some, unwrap_or, option_map, option_and_then, if◌then◌else◌}
use Rattle.std.specs.List.{All, list_any}
use Rattle.kumo_outside.specs.Search.{found}
use Rattle.queue_name.specs.QueueName.{Name}
use Rattle.policy_core.specs.Site.{is_same_site}
use Rattle.policy_core.specs.LiveOrders.{end_of, is_during}
use Rattle.policy_core.specs.Automation.{is_fired, covers, is_suspend, limits_of}
use Rattle.policy_core.specs.declared.options.InForce.{InForce}
use Rattle.policy_core.specs.declared.site.Site.{Site}
use Rattle.policy_core.specs.declared.site.PathBase.{PathBase}
use Rattle.policy_core.specs.declared.rules.Rule.{Rule}

-- some pattern of the rule is found in a text
abbrev pub is_matched : List ℕ → Rule → Bool
is_matched text rule = list_any (λ pattern. unwrap_or (found pattern text) false) rule.patterns

-- what the tables of a path come to, and its site; a path's number is its place in a list of these, from 0
pub record PathRules : Type 0 where
  pub base : PathBase
  pub site : Site

-- the rule of a number, which is counted from 1
abbrev pub rule_in : PathBase → ℕ → Option Rule
rule_in base number = if number == 0 then None else slice_get base.rules (number - 1)

abbrev pub rule_at : List PathRules → ℕ → ℕ → Option Rule
rule_at paths path number = option_and_then (λ p. rule_in p.base number) (slice_get paths path)

abbrev pub has_rule : List PathRules → ℕ → ℕ → Bool
has_rule paths path number = is_some (rule_at paths path number)

-- a match: when, of which rule of which path, and the queue of the message whose reply it was
pub record Noted : Type 0 where
  pub at : ℕ
  pub path : ℕ
  pub number : ℕ
  pub rule : Rule
  pub name : Name

-- a match of the rule of a number of a path
abbrev pub noted_by : List PathRules → ℕ → ℕ → ℕ → Name → Option Noted
noted_by paths path number t name = option_map (λ rule. record { at = t; path = path; number = number; rule = rule; name = name }) (rule_at paths path number)

-- none of them was after that moment
abbrev pub IsLatest : ℕ → List Noted → Type 0
IsLatest t matches = All (λ m. m.at ≤ t) matches

abbrev pub is_of : ℕ → ℕ → Noted → Bool
is_of path number m = m.number == number && m.path == path

-- the moments of the matches of a rule of a path
abbrev pub moments_of : ℕ → ℕ → List Noted → List ℕ
moments_of path number matches = map (λ m. m.at) (filter (is_of path number) matches)

-- a match fires its rule, by the moments of the rule's matches before it and its own
abbrev pub is_firing : List Noted → Noted → Bool
is_firing before m = is_fired m.rule.trigger (moments_of m.path m.number before ++ m.at ∷ []) m.at

abbrev pub fired_at : List Noted → Noted → List Noted
fired_at before m = if is_firing before m then m ∷ [] else []

abbrev pub firings_from : List Noted → List Noted → List Noted
firings_from before [] = []
firings_from before (m ∷ later) = fired_at before m ++ firings_from (before ++ m ∷ []) later

-- the firings that these matches come to
abbrev pub firings_of : List Noted → List Noted
firings_of matches = firings_from [] matches

-- from its moment on, for the rule's duration
abbrev pub is_in_force : ℕ → Noted → Bool
is_in_force t f = is_during f.at f.rule.duration t

abbrev pub firings_in_force : List Noted → ℕ → List Noted
firings_in_force matches t = filter (is_in_force t) (firings_of matches)

-- a rule of a path, by its number, has a firing in force
abbrev pub is_rule_in_force : List Noted → ℕ → ℕ → ℕ → Bool
is_rule_in_force matches t path number = list_any (is_of path number) (firings_in_force matches t)

-- of each option of a path what the last rule in force that sets it says, else what the path's tables say
abbrev pub limits_at : List PathRules → List Noted → ℕ → ℕ → Option InForce
limits_at paths matches t path = option_map (λ p. limits_of p.base (is_rule_in_force matches t path)) (slice_get paths path)

abbrev pub are_same_sites : Option PathRules → Option PathRules → Bool
are_same_sites (Some a) (Some b) = is_same_site a.site b.site
are_same_sites a b = false

-- some firing in force, on a path of the same site, holds back the messages of a queue
abbrev pub is_covered : List PathRules → List Noted → ℕ → ℕ → Name → Bool
is_covered paths matches t path name =
    list_any (λ f. are_same_sites (slice_get paths f.path) (slice_get paths path) && covers f.rule.action f.name name) (firings_in_force matches t)

-- some firing in force suspends a path
abbrev pub is_halted : List Noted → ℕ → ℕ → Bool
is_halted matches t path = list_any (λ f. is_suspend f.rule.action && f.path == path) (firings_in_force matches t)

-- the least of some numbers
abbrev pub least : List ℕ → Option ℕ
least [] = None
least (n ∷ numbers) = Some (unwrap_or (option_map (min n) (least numbers)) n)

-- the first moment at which a firing in force is over
abbrev pub next_end : List Noted → ℕ → Option ℕ
next_end matches t = least (map (λ f. end_of f.at f.rule.duration) (firings_in_force matches t))
