-- What a note answers, and what the automaton then stands for.
use Rattle.std.proofs.Common.{◌≡◌, ◌≤◌, ◌<◌, ◌+◌, ◌-◌, ℕ, sym, ap, ◌∙◌, subst, arith, Bool, Some, List, [], ◌∷◌, ◌++◌, length, get_or, set}
use Rattle.std.specs.Prelude.{Result, IfOk, OnOk}
use Rattle.std.specs.List.{AllByRecursion}
use Rattle.std.proofs.lemmas.List.{get_or_default}
use Rattle.std.proofs.lemmas.List.Elements.{All-get_or, recursion_from_All}
use Rattle.std.proofs.Math.Seq.{map-set_same}
use Rattle.circular_buffer.specs.Buffer.{keep_last}
use Rattle.queue_name.specs.QueueName.{Name}
use Rattle.policy_core.specs.Automation.{is_fired}
use Rattle.policy_core.specs.declared.rules.Rule.{Rule}
use Rattle.automation_rules.specs.Memory.{RuleMemory, PathMemory, IsAscending, looks_back}
use Rattle.automation_rules.specs.Matches.{PathRules, Noted, IsLatest, rule_at, noted_by, moments_of, is_firing}
use Rattle.automation_rules.specs.Standing.{paths_of, kept_firings, RuleStandsFor, StandsFor}
use Rattle.automation_rules.specs.inside.Noting.{noted_in}
use Rattle.automation_rules.proofs.RuleSteps.{ascending_behind}
use Rattle.automation_rules.proofs.MatchSteps.{latest_moments}
use Rattle.automation_rules.proofs.StandingSteps.{KnownRule, known_rule, noted_is, stands_noted, ok_both}

pub same_paths : (state : List PathMemory) (path : ℕ) (p q : PathMemory) → p ≡ get_or state path p → q.base ≡ p.base → q.site ≡ p.site
    → paths_of (set state path q) ≡ paths_of state
same_paths state path p q here base site = map-set_same rules_of state path q p (rules ∙ ap rules_of here) where
  rules_of : PathMemory → PathRules
  rules_of r = record { base = r.base; site = r.site }

  rules : rules_of q ≡ rules_of p
  rules = cc (base, site)

-- where the rule of a match and its state stand
record Here (state : List PathMemory) (ms : List Noted) (path number t : ℕ) (name : Name) (m : Noted) (p : PathMemory) (s : RuleMemory) : Type 0 where
  rule : rule_at (paths_of state) path number ≡ Some m.rule
  is : m ≡ record { at = t; path = path; number = number; rule = m.rule; name = name }
  path_within : path < length state
  counted : number - 1 + 1 ≡ number
  within : number - 1 < length p.rules
  there : m.rule ≡ get_or p.base.rules (number - 1) m.rule
  mine : s ≡ get_or p.rules (number - 1) s
  stands : RuleStandsFor m.rule s (moments_of path number ms) (kept_firings path number ms)

blank : RuleMemory
blank = record { most = 0; moments = []; firings = [] }

pub state_at : PathMemory → ℕ → RuleMemory
state_at p number = get_or p.rules (number - 1) blank

here_at : (state : List PathMemory) (ms : List Noted) (path number t : ℕ) (name : Name) (m : Noted) (p : PathMemory)
    → StandsFor state ms → noted_by (paths_of state) path number t name ≡ Some m → p ≡ get_or state path p → Here state ms path number t name m p (state_at p number)
unfolding state_at
here_at state ms path number t name m p stands by here =
    record { rule = noted.0; is = noted.1; path_within = rule.path_within; counted = counted; within = within; there = found.1; mine = mine; stands = own } where
      noted : (rule_at (paths_of state) path number ≡ Some m.rule) × (m ≡ record { at = t; path = path; number = number; rule = m.rule; name = name })
      noted = noted_is state path number t name m by

      rule : KnownRule state path number m.rule
      rule = known_rule state path number m.rule noted.0

      found : (number - 1 < length p.base.rules) × (m.rule ≡ get_or p.base.rules (number - 1) m.rule)
      found = rule.there p here

      counted : number - 1 + 1 ≡ number
      counted = omega (arith, rule.from_one)

      long : length p.rules ≡ length p.base.rules
      long = subst (λ (r : PathMemory). length r.rules ≡ length r.base.rules) (sym here) (All-get_or (λ (r : PathMemory). length r.rules ≡ length r.base.rules) state path p rule.path_within stands.whole)

      within : number - 1 < length p.rules
      within = omega (arith, long, found.0)

      mine : state_at p number ≡ get_or p.rules (number - 1) (state_at p number)
      mine = get_or_default p.rules (number - 1) blank (state_at p number) within

      own : RuleStandsFor m.rule (state_at p number) (moments_of path number ms) (kept_firings path number ms)
      own =
          subst (λ k. RuleStandsFor m.rule (state_at p number) (moments_of path k ms) (kept_firings path k ms)) counted
          (stands.rules path (number - 1) p m.rule (state_at p number) rule.path_within here within found.1 mine)

pub fires_step : {E : Type 0} (state : List PathMemory) (ms : List Noted) (path number t : ℕ) (name : Name) (m : Noted) (p : PathMemory) (r : Result Bool E)
    → StandsFor state ms → IsLatest t ms → noted_by (paths_of state) path number t name ≡ Some m → p ≡ get_or state path p
    → ((x : Rule) (s : RuleMemory) (moments : List ℕ) → x ≡ get_or p.base.rules (number - 1) x → s ≡ get_or p.rules (number - 1) s
    → s.moments ≡ keep_last (looks_back x.trigger) moments → IsAscending (moments ++ t ∷ []) → IfOk r (λ fires. fires ≡ is_fired x.trigger (moments ++ t ∷ []) t))
    → IfOk r (λ fires. fires ≡ is_firing ms m)
fires_step state ms path number t name m p r stands latest by here says =
    subst (λ b. IfOk r (λ fires. fires ≡ b)) same
    (says m.rule (state_at p number) (moments_of path number ms) h.there h.mine h.stands.kept (ascending_behind (moments_of path number ms) t h.stands.order before)) where
      h : Here state ms path number t name m p (state_at p number)
      h = here_at state ms path number t name m p stands by here

      before : AllByRecursion (λ s. s ≤ t) (moments_of path number ms)
      before = latest_moments t path number ms (recursion_from_All (λ (n : Noted). n.at ≤ t) ms latest)

      noted : Noted
      noted = record { at = t; path = path; number = number; rule = m.rule; name = name }

      same : is_fired m.rule.trigger (moments_of path number ms ++ t ∷ []) t ≡ is_firing ms m
      same = sym (ap (is_firing ms) h.is)

pub noted_step : {E : Type 0} (state : List PathMemory) (ms : List Noted) (path number t : ℕ) (name : Name) (m : Noted) (p q : PathMemory) (r : Result Bool E)
    → StandsFor state ms → IsLatest t ms → noted_by (paths_of state) path number t name ≡ Some m → p ≡ get_or state path p
    → IfOk r (λ fires. fires ≡ is_firing ms m) → q.base ≡ p.base → q.site ≡ p.site
    → ((x : Rule) (s : RuleMemory) → x ≡ get_or p.base.rules (number - 1) x → s ≡ get_or p.rules (number - 1) s
    → IfOk r (λ fires. q.rules ≡ set p.rules (number - 1) (noted_in s x t name fires)))
    → OnOk r (StandsFor (set state path q) (ms ++ m ∷ []))
noted_step state ms path number t name m p q r stands latest by here fires base site rules =
    ok_both r (λ b. b ≡ is_firing ms m) (λ b. q.rules ≡ set p.rules (number - 1) (noted_in (state_at p number) m.rule t name b)) _ fires
    (rules m.rule (state_at p number) h.there h.mine)
    (λ b right now. stands_noted state ms path (number - 1) t name m m.rule p q (state_at p number) b stands latest
    (ap (rule_at (paths_of state) path) h.counted ∙ h.rule)
    (h.is ∙ ap (λ n. record { at = t; path = path; number = n; rule = m.rule; name = name }) (sym h.counted))
    right here h.there h.mine h.path_within h.within base site now) where
      h : Here state ms path number t name m p (state_at p number)
      h = here_at state ms path number t name m p stands by here
