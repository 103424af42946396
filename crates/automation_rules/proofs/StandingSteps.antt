-- An automaton takes one match or one path more.
use Rattle.std.proofs.Common.{◌≡◌, ◌≤◌, ◌<◌, ◌+◌, ◌-◌, ◌⊎◌, inl, inr, ℕ, refl, sym, ap, ◌∙◌, subst, arith, Bool, true, false, ◌&&◌, ◌==◌, nat_eq, Option, Some, None, List, [], ◌∷◌, ◌++◌, length, get_or, set, drop, map, filter, get_or-set_same, get_or-set_other, length-set, length-append, option_map, option_and_then, cond}
use Rattle.std.specs.Prelude.{slice_get, Result, Ok, Err, IfOk, OnOk}
use Rattle.std.specs.List.{All, AllByRecursion}
use Rattle.std.proofs.lemmas.Bool.{cases_eq, cases_lt, eqb-true, eq-eqb, false≢true}
use Rattle.std.proofs.lemmas.Option.{slice_get-map, get_or_from_slice_get, slice_get_within, slice_get_past}
use Rattle.std.proofs.Math.Seq.{map-set_same, get_or-append_seam}
use Rattle.std.proofs.Math.ListN.{get_or-map}
use Rattle.std.proofs.lemmas.List.{get_or_default, get_or_append_left, length-map, map-append}
use Rattle.std.proofs.lemmas.List.Elements.{All-push, All-set, All-get_or, All-weaker, recursion_from_All}
use Rattle.circular_buffer.proofs.Places.{slice_get-append_left}
use Rattle.queue_name.specs.QueueName.{Name}
use Rattle.policy_core.specs.declared.rules.Rule.{Rule}
use Rattle.policy_core.specs.declared.site.PathBase.{PathBase}
use Rattle.automation_rules.specs.Memory.{RuleMemory, PathMemory, blank_rule, looks_back}
use Rattle.automation_rules.specs.Matches.{PathRules, Noted, IsLatest, rule_in, rule_at, noted_by, is_of, moments_of, is_firing, firings_of}
use Rattle.automation_rules.specs.Standing.{paths_of, kept_of, kept_firings, RuleStandsFor, StandsFor}
use Rattle.automation_rules.specs.inside.Noting.{noted_in}
use Rattle.automation_rules.proofs.RuleSteps.{quiet, loud}
use Rattle.automation_rules.proofs.MatchSteps.{all_firings, latest_moments, moments_same, moments_more, kept_same, kept_quiet, kept_loud}

-- where a rule stands that has a number
pub record KnownRule (state : List PathMemory) (path number : ℕ) (x : Rule) : Type 0 where
  pub path_within : path < length state
  pub from_one : 1 ≤ number
  pub there : (p : PathMemory) → p ≡ get_or state path p → (number - 1 < length p.base.rules) × (x ≡ get_or p.base.rules (number - 1) x)

rule_in_is : (base : PathBase) (number : ℕ) (x : Rule) → rule_in base number ≡ Some x → (1 ≤ number) × (slice_get base.rules (number - 1) ≡ Some x)
rule_in_is base number x is = by (nat_eq number 0) refl where
  by : (b : Bool) → nat_eq number 0 ≡ b → (1 ≤ number) × (slice_get base.rules (number - 1) ≡ Some x)
  by true zero = absurd (none (sym (ap (λ b. cond b None (slice_get base.rules (number - 1))) zero) ∙ is)) where
    none : None ≡ Some x → ⊥
    none e = cc
  by false more = (some, sym (ap (λ b. cond b None (slice_get base.rules (number - 1))) more) ∙ is) where
    some : 1 ≤ number
    some = by_cases (cases_lt 0 number) where
      by_cases : (0 < number) ⊎ (number ≤ 0) → 1 ≤ number
      by_cases (inl above) = omega arith
      by_cases (inr none) =
          let zero : number ≡ 0 = omega arith in
          absurd (false≢true (sym more ∙ eq-eqb number 0 zero))

pub known_rule : (state : List PathMemory) (path number : ℕ) (x : Rule) → rule_at (paths_of state) path number ≡ Some x → KnownRule state path number x
known_rule state path number x is = by (slice_get state path) refl where
  rules : PathMemory → PathRules
  rules p = record { base = p.base; site = p.site }

  found : (o : Option PathMemory) → slice_get state path ≡ o → option_and_then (λ (p : PathRules). rule_in p.base number) (option_map rules o) ≡ Some x
  found o at =
      ap (λ q. option_and_then (λ (p : PathRules). rule_in p.base number) (option_map rules q)) (sym at)
      ∙ ap (option_and_then (λ (p : PathRules). rule_in p.base number)) (sym (slice_get-map rules state path)) ∙ is

  by : (o : Option PathMemory) → slice_get state path ≡ o → KnownRule state path number x
  by None at = absurd (none (found None at)) where
    none : None ≡ Some x → ⊥
    none e = cc
  by (Some q) at =
      let rule = rule_in_is q.base number x (found (Some q) at) in
      record {
        path_within = slice_get_within state path q at;
        from_one = rule.0;
        there = λ p here.
            let same : q ≡ p = sym (get_or_from_slice_get state path q p at) ∙ sym here in
            subst (λ (r : PathMemory). (number - 1 < length r.base.rules) × (x ≡ get_or r.base.rules (number - 1) x)) same
            (slice_get_within q.base.rules (number - 1) x rule.1, sym (get_or_from_slice_get q.base.rules (number - 1) x x rule.1));
      }

-- the match of a rule that is there
pub noted_is : (state : List PathMemory) (path number t : ℕ) (name : Name) (m : Noted) → noted_by (paths_of state) path number t name ≡ Some m
    → (rule_at (paths_of state) path number ≡ Some m.rule) × (m ≡ record { at = t; path = path; number = number; rule = m.rule; name = name })
noted_is state path number t name m is = by (rule_at (paths_of state) path number) refl where
  noted : Rule → Noted
  noted x = record { at = t; path = path; number = number; rule = x; name = name }

  by : (o : Option Rule) → rule_at (paths_of state) path number ≡ o
      → (rule_at (paths_of state) path number ≡ Some m.rule) × (m ≡ record { at = t; path = path; number = number; rule = m.rule; name = name })
  by None at = absurd (none (sym (ap (option_map noted) at) ∙ is)) where
    none : None ≡ Some m → ⊥
    none e = cc
  by (Some x) at = (at ∙ ap Some rule, sym same ∙ ap noted rule) where
    some : (a b : Noted) → Some a ≡ Some b → a ≡ b
    some a b e = cc

    same : noted x ≡ m
    same = some (noted x) m (sym (ap (option_map noted) at) ∙ is)

    rule : x ≡ m.rule
    rule = ap (λ (n : Noted). n.rule) same

-- the rule's own state, and those of the others
pub other_stands : (x : Rule) (s : RuleMemory) (path number : ℕ) (ms : List Noted) (m : Noted) → is_of path number m ≡ false
    → RuleStandsFor x s (moments_of path number ms) (kept_firings path number ms)
    → RuleStandsFor x s (moments_of path number (ms ++ m ∷ [])) (kept_firings path number (ms ++ m ∷ []))
other_stands x s path number ms m other stands =
    subst (λ moments. RuleStandsFor x s moments (kept_firings path number (ms ++ m ∷ []))) (sym (moments_same path number ms m other))
    (subst (RuleStandsFor x s (moments_of path number ms)) (sym (kept_same path number ms m other)) stands)

pub own_stands : (x : Rule) (s : RuleMemory) (path number t : ℕ) (name : Name) (ms : List Noted) (m : Noted) (fires : Bool)
    → m ≡ record { at = t; path = path; number = number; rule = x; name = name } → is_of path number m ≡ true → fires ≡ is_firing ms m
    → IsLatest t ms → RuleStandsFor x s (moments_of path number ms) (kept_firings path number ms)
    → RuleStandsFor x (noted_in s x t name fires) (moments_of path number (ms ++ m ∷ [])) (kept_firings path number (ms ++ m ∷ []))
own_stands x s path number t name ms m fires is same right latest stands =
    subst (λ moments. RuleStandsFor x (noted_in s x t name fires) moments (kept_firings path number (ms ++ m ∷ []))) moments (by fires refl) where
      moments : moments_of path number ms ++ t ∷ [] ≡ moments_of path number (ms ++ m ∷ [])
      moments = sym (moments_more path number ms m same ∙ ap (λ (n : Noted). moments_of path number ms ++ n.at ∷ []) is)

      before : AllByRecursion (λ s. s ≤ t) (moments_of path number ms)
      before = latest_moments t path number ms (recursion_from_All (λ (n : Noted). n.at ≤ t) ms latest)

      by : (b : Bool) → fires ≡ b → RuleStandsFor x (noted_in s x t name fires) (moments_of path number ms ++ t ∷ []) (kept_firings path number (ms ++ m ∷ []))
      by true at =
          subst (λ b. RuleStandsFor x (noted_in s x t name b) (moments_of path number ms ++ t ∷ []) (kept_firings path number (ms ++ m ∷ []))) (sym at)
          (subst (RuleStandsFor x (noted_in s x t name true) (moments_of path number ms ++ t ∷ []))
          (sym (kept_loud path number ms m same (sym right ∙ at) ∙ ap (λ n. kept_firings path number ms ++ kept_of n ∷ []) is))
          (loud x s t name (moments_of path number ms) (kept_firings path number ms) stands before))
      by false at =
          subst (λ b. RuleStandsFor x (noted_in s x t name b) (moments_of path number ms ++ t ∷ []) (kept_firings path number (ms ++ m ∷ []))) (sym at)
          (subst (RuleStandsFor x (noted_in s x t name false) (moments_of path number ms ++ t ∷ []))
          (sym (kept_quiet path number ms m (sym right ∙ at)))
          (quiet x s t name (moments_of path number ms) (kept_firings path number ms) stands before))

test_of : (path number : ℕ) (m : Noted) → m.number ≡ number → m.path ≡ path → is_of path number m ≡ true
test_of path number m n p = rw (eq-eqb m.number number n, eq-eqb m.path path p) refl

not_equal : (a b : ℕ) → (a ≡ b → ⊥) → nat_eq a b ≡ false
not_equal a b ne = by (nat_eq a b) refl where
  by : (r : Bool) → nat_eq a b ≡ r → nat_eq a b ≡ false
  by false is = is
  by true is = absurd (ne (eqb-true a b is))

other_path : (path number : ℕ) (m : Noted) → (m.path ≡ path → ⊥) → is_of path number m ≡ false
other_path path number m ne = by (m.number == number) where
  by : (b : Bool) → (b && (m.path == path)) ≡ false
  by true = not_equal m.path path ne
  by false = refl

other_number : (path number : ℕ) (m : Noted) → (m.number ≡ number → ⊥) → is_of path number m ≡ false
other_number path number m ne = ap (λ b. b && (m.path == path)) (not_equal m.number number ne)

moved : (a c b d : ℕ) (x y : Rule) (s r : RuleMemory) (ms : List Noted) → a ≡ c → b ≡ d → x ≡ y → s ≡ r
    → RuleStandsFor x s (moments_of a (b + 1) ms) (kept_firings a (b + 1) ms) → RuleStandsFor y r (moments_of c (d + 1) ms) (kept_firings c (d + 1) ms)
moved a c b d x y s r ms ac bd xy sr stands =
    subst (λ k. RuleStandsFor y r (moments_of k (d + 1) ms) (kept_firings k (d + 1) ms)) ac
    (subst (λ k. RuleStandsFor y r (moments_of a (k + 1) ms) (kept_firings a (k + 1) ms)) bd
    (subst (λ z. RuleStandsFor z r (moments_of a (b + 1) ms) (kept_firings a (b + 1) ms)) xy
    (subst (λ z. RuleStandsFor x z (moments_of a (b + 1) ms) (kept_firings a (b + 1) ms)) sr stands)))

-- with the state of the rule after the match, and of every other rule as it was
pub stands_noted : (state : List PathMemory) (ms : List Noted) (path place t : ℕ) (name : Name) (m : Noted) (x : Rule) (p q : PathMemory) (s : RuleMemory) (fires : Bool)
    → StandsFor state ms → IsLatest t ms → rule_at (paths_of state) path (place + 1) ≡ Some x
    → m ≡ record { at = t; path = path; number = place + 1; rule = x; name = name } → fires ≡ is_firing ms m
    → p ≡ get_or state path p → x ≡ get_or p.base.rules place x → s ≡ get_or p.rules place s → path < length state → place < length p.rules
    → q.base ≡ p.base → q.site ≡ p.site → q.rules ≡ set p.rules place (noted_in s x t name fires)
    → StandsFor (set state path q) (ms ++ m ∷ [])
stands_noted state ms path place t name m x p q s fires stands latest rule is right here there mine within inside base site rules =
    record { known = known; whole = whole; rules = each } where
      same_paths : paths_of (set state path q) ≡ paths_of state
      same_paths = map-set_same rules_of state path q p (cc (base, site)) where
        rules_of : PathMemory → PathRules
        rules_of r = record { base = r.base; site = r.site }

      m_path : m.path ≡ path
      m_path = ap (λ (n : Noted). n.path) is

      m_number : m.number ≡ place + 1
      m_number = ap (λ (n : Noted). n.number) is

      m_rule : m.rule ≡ x
      m_rule = ap (λ (n : Noted). n.rule) is

      known : All (λ n. rule_at (paths_of (set state path q)) n.path n.number ≡ Some n.rule) (ms ++ m ∷ [])
      known =
          subst (λ ps. All (λ (n : Noted). rule_at ps n.path n.number ≡ Some n.rule) (ms ++ m ∷ [])) (sym same_paths)
          (All-push (λ n. rule_at (paths_of state) n.path n.number ≡ Some n.rule) ms m stands.known
          (ap (λ k. rule_at (paths_of state) k m.number) m_path ∙ ap (rule_at (paths_of state) path) m_number ∙ rule ∙ ap Some (sym m_rule)))

      long : length p.rules ≡ length p.base.rules
      long = subst (λ (r : PathMemory). length r.rules ≡ length r.base.rules) (sym here) (All-get_or (λ r. length r.rules ≡ length r.base.rules) state path p within stands.whole)

      whole : All (λ r. length r.rules ≡ length r.base.rules) (set state path q)
      whole =
          All-set (λ r. length r.rules ≡ length r.base.rules) state path q
          (ap (λ (rs : List RuleMemory). length rs) rules ∙ length-set p.rules place (noted_in s x t name fires) ∙ long ∙ ap (λ (b : PathBase). length b.rules) (sym base))
          stands.whole

      each : (path1 place1 : ℕ) (p1 : PathMemory) (x1 : Rule) (s1 : RuleMemory) → path1 < length (set state path q) → p1 ≡ get_or (set state path q) path1 p1
          → place1 < length p1.rules → x1 ≡ get_or p1.base.rules place1 x1 → s1 ≡ get_or p1.rules place1 s1
          → RuleStandsFor x1 s1 (moments_of path1 (place1 + 1) (ms ++ m ∷ [])) (kept_firings path1 (place1 + 1) (ms ++ m ∷ []))
      each path1 place1 p1 x1 s1 within1 here1 inside1 there1 mine1 = by (cases_eq path1 path) where
        state_within : path1 < length state
        state_within = omega (arith, length-set state path q)

        by : (path1 ≡ path) ⊎ (path1 ≡ path → ⊥) → RuleStandsFor x1 s1 (moments_of path1 (place1 + 1) (ms ++ m ∷ [])) (kept_firings path1 (place1 + 1) (ms ++ m ∷ []))
        by (inr ne) =
            let here2 = here1 ∙ get_or-set_other state path path1 q p1 ne in
            other_stands x1 s1 path1 (place1 + 1) ms m (other_path path1 (place1 + 1) m (λ e. ne (sym e ∙ m_path)))
            (stands.rules path1 place1 p1 x1 s1 state_within here2 inside1 there1 mine1)
        by (inl same) = by_place (cases_eq place1 place) where
          it : p1 ≡ q
          it = here1 ∙ ap (λ k. get_or (set state path q) k p1) same ∙ get_or-set_same state path q p1 within

          rules1 : p1.rules ≡ set p.rules place (noted_in s x t name fires)
          rules1 = ap (λ (r : PathMemory). r.rules) it ∙ rules

          base1 : p1.base ≡ p.base
          base1 = ap (λ (r : PathMemory). r.base) it ∙ base

          inside2 : place1 < length p.rules
          inside2 = omega (arith, ap (λ (rs : List RuleMemory). length rs) rules1, length-set p.rules place (noted_in s x t name fires))

          there2 : x1 ≡ get_or p.base.rules place1 x1
          there2 = there1 ∙ ap (λ (b : PathBase). get_or b.rules place1 x1) base1

          mine2 : s1 ≡ get_or (set p.rules place (noted_in s x t name fires)) place1 s1
          mine2 = mine1 ∙ ap (λ rs. get_or rs place1 s1) rules1

          by_place : (place1 ≡ place) ⊎ (place1 ≡ place → ⊥) → RuleStandsFor x1 s1 (moments_of path1 (place1 + 1) (ms ++ m ∷ [])) (kept_firings path1 (place1 + 1) (ms ++ m ∷ []))
          by_place (inr ne) =
              other_stands x1 s1 path1 (place1 + 1) ms m (other_number path1 (place1 + 1) m (λ e. ne (omega (arith, e, m_number))))
              (stands.rules path1 place1 p x1 s1 state_within (here ∙ ap (λ k. get_or state k p) (sym same)) inside2 there2
              (mine2 ∙ get_or-set_other p.rules place place1 (noted_in s x t name fires) s1 ne))
          by_place (inl e) =
              let s_is = mine2 ∙ ap (λ k. get_or (set p.rules place (noted_in s x t name fires)) k s1) e ∙ get_or-set_same p.rules place (noted_in s x t name fires) s1 inside in
              let x_is = there2 ∙ ap (λ k. get_or p.base.rules k x1) e ∙ get_or_default p.base.rules place x1 x (omega (arith, long)) ∙ sym there in
              moved path path1 place place1 x x1 (noted_in s x t name fires) s1 (ms ++ m ∷ []) (sym same) (sym e) (sym x_is) (sym s_is)
              (own_stands x s path (place + 1) t name ms m fires is (test_of path (place + 1) m m_number m_path) right latest
              (stands.rules path place p x s within here inside there mine))

-- a path that nothing matched yet
none_kept : (path number : ℕ) (ms : List Noted) → AllByRecursion (λ m. m.path < path) ms → filter (is_of path number) ms ≡ []
none_kept path number [] all = refl
none_kept path number (m ∷ ms) all =
    ap (λ b. cond b (m ∷ filter (is_of path number) ms) (filter (is_of path number) ms)) (other_path path number m (λ e. absurd (omega (arith, all.0, e))))
    ∙ none_kept path number ms all.1

blank_stands : (x : Rule) → RuleStandsFor x (blank_rule x) [] []
blank_stands x = record {
  most = refl;
  kept = sym (ap (λ k. drop k none) no_less);
  order = tt;
  last = λ t all. omega arith;
  live = λ t all. refl;
} where
  none : List ℕ
  none = []

  no_less : 0 - looks_back x.trigger ≡ 0
  no_less = omega arith

rule_at_more : (ps qs : List PathRules) (path number : ℕ) (x : Rule) → rule_at ps path number ≡ Some x → rule_at (ps ++ qs) path number ≡ Some x
rule_at_more ps qs path number x is = by (cases_lt path (length ps)) where
  by : (path < length ps) ⊎ (length ps ≤ path) → rule_at (ps ++ qs) path number ≡ Some x
  by (inl within) = ap (option_and_then (λ (p : PathRules). rule_in p.base number)) (slice_get-append_left ps qs path within) ∙ is
  by (inr past) = absurd (none (sym (ap (option_and_then (λ (p : PathRules). rule_in p.base number)) (slice_get_past ps path past)) ∙ is)) where
    none : None ≡ Some x → ⊥
    none e = cc

pub stands_added : (state : List PathMemory) (ms : List Noted) (p : PathMemory) → StandsFor state ms → p.rules ≡ map blank_rule p.base.rules
    → StandsFor (state ++ p ∷ []) ms
stands_added state ms p stands blank = record { known = known; whole = whole; rules = each } where
  one : List PathMemory
  one = p ∷ []

  more : paths_of (state ++ p ∷ []) ≡ paths_of state ++ paths_of one
  more = map-append (λ (r : PathMemory). record { base = r.base; site = r.site }) state one

  known : All (λ n. rule_at (paths_of (state ++ p ∷ [])) n.path n.number ≡ Some n.rule) ms
  known =
      subst (λ ps. All (λ (n : Noted). rule_at ps n.path n.number ≡ Some n.rule) ms) (sym more)
      (All-weaker (λ n. rule_at (paths_of state) n.path n.number ≡ Some n.rule) (λ n. rule_at (paths_of state ++ paths_of one) n.path n.number ≡ Some n.rule)
      (λ n is. rule_at_more (paths_of state) (paths_of one) n.path n.number n.rule is) ms stands.known)

  whole : All (λ r. length r.rules ≡ length r.base.rules) (state ++ p ∷ [])
  whole = All-push (λ r. length r.rules ≡ length r.base.rules) state p stands.whole (ap (λ (rs : List RuleMemory). length rs) blank ∙ length-map p.base.rules blank_rule)

  paths_below : All (λ n. n.path < length state) ms
  paths_below =
      All-weaker (λ n. rule_at (paths_of state) n.path n.number ≡ Some n.rule) (λ n. n.path < length state)
      (λ n is. (known_rule state n.path n.number n.rule is).path_within) ms stands.known

  each : (path1 place1 : ℕ) (p1 : PathMemory) (x1 : Rule) (s1 : RuleMemory) → path1 < length (state ++ p ∷ []) → p1 ≡ get_or (state ++ p ∷ []) path1 p1
      → place1 < length p1.rules → x1 ≡ get_or p1.base.rules place1 x1 → s1 ≡ get_or p1.rules place1 s1
      → RuleStandsFor x1 s1 (moments_of path1 (place1 + 1) ms) (kept_firings path1 (place1 + 1) ms)
  each path1 place1 p1 x1 s1 within1 here1 inside1 there1 mine1 = by (cases_lt path1 (length state)) where
    by : (path1 < length state) ⊎ (length state ≤ path1) → RuleStandsFor x1 s1 (moments_of path1 (place1 + 1) ms) (kept_firings path1 (place1 + 1) ms)
    by (inl within) = stands.rules path1 place1 p1 x1 s1 within (here1 ∙ get_or_append_left state one p1 path1 within) inside1 there1 mine1
    by (inr past) =
        subst (λ moments. RuleStandsFor x1 s1 moments (kept_firings path1 (place1 + 1) ms)) (sym moments)
        (subst (RuleStandsFor x1 s1 []) (sym fired) (subst (λ s. RuleStandsFor x1 s [] []) (sym s_is) (blank_stands x1))) where
          last : path1 ≡ length state
          last = omega (arith, length-append state one)

          it : p1 ≡ p
          it = here1 ∙ ap (λ k. get_or (state ++ one) k p1) last ∙ get_or-append_seam state p [] p1

          rules1 : p1.rules ≡ map blank_rule p1.base.rules
          rules1 = subst (λ (r : PathMemory). r.rules ≡ map blank_rule r.base.rules) (sym it) blank

          s_is : s1 ≡ blank_rule x1
          s_is =
              mine1 ∙ get_or_default p1.rules place1 s1 (blank_rule x1) inside1 ∙ ap (λ rs. get_or rs place1 (blank_rule x1)) rules1
              ∙ get_or-map blank_rule p1.base.rules place1 x1 ∙ ap blank_rule (sym there1)

          below : AllByRecursion (λ n. n.path < path1) ms
          below = subst (λ k. AllByRecursion (λ (n : Noted). n.path < k) ms) (sym last) (recursion_from_All (λ (n : Noted). n.path < length state) ms paths_below)

          moments : moments_of path1 (place1 + 1) ms ≡ []
          moments = ap (map (λ (n : Noted). n.at)) (none_kept path1 (place1 + 1) ms below)

          fired : kept_firings path1 (place1 + 1) ms ≡ []
          fired =
              ap (map kept_of) (none_kept path1 (place1 + 1) (firings_of ms)
              (subst (λ k. AllByRecursion (λ (n : Noted). n.path < k) (firings_of ms)) (sym last) (all_firings (λ (n : Noted). n.path < length state) ms paths_below)))

-- at an Ok of which two facts are known
pub ok_both : {A E : Type 0} (r : Result A E) (P Q : A → Type 0) (G : Type 0) → IfOk r P → IfOk r Q → ((a : A) → P a → Q a → G) → OnOk r G
ok_both (Ok a) P Q G p q both = both a p q
ok_both (Err e) P Q G p q both = tt

pub ok_always : {A E : Type 0} (r : Result A E) (G : Type 0) → G → OnOk r G
ok_always (Ok a) G g = g
ok_always (Err e) G g = tt
