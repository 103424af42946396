-- What the states show at a moment, and what the firings of the matches come to.
use Rattle.std.proofs.Common.{◌≡◌, ◌≤◌, ◌<◌, ◌+◌, ◌-◌, ◌⊎◌, inl, inr, ℕ, min, refl, sym, ap, ◌∙◌, subst, arith, Bool, true, false, ◌&&◌, ◌||◌, ◌==◌, nat_le, Option, Some, None, unwrap_or, List, [], ◌∷◌, length, get_or, filter, map, option_map}
use Rattle.std.specs.Prelude.{slice_get, is_some}
use Rattle.std.specs.List.{list_any, AllByRecursion}
use Rattle.std.proofs.lemmas.Bool.{cases_lt, leb-true, le-leb, eqb-true, false≢true}
use Rattle.std.proofs.lemmas.Option.{slice_get-get_or, get_or_from_slice_get, slice_get_within, slice_get-map}
use Rattle.std.proofs.lemmas.List.{get_or_default}
use Rattle.std.proofs.lemmas.List.Elements.{All-get_or, recursion_from_All}
use Rattle.circular_buffer.proofs.Places.{slice_get-some}
use Rattle.queue_name.specs.QueueName.{Name}
use Rattle.policy_core.specs.PathOptions.{in_force_of}
use Rattle.policy_core.specs.Site.{is_same_site}
use Rattle.policy_core.specs.LiveOrders.{end_of}
use Rattle.policy_core.specs.Automation.{covers, is_suspend, numbered_rules, limits_of, in_force_by}
use Rattle.policy_core.specs.declared.rules.Rule.{Rule}
use Rattle.policy_core.specs.declared.rules.Action.{Action}
use Rattle.policy_core.specs.declared.rules.Action.TheVariants as action
use Rattle.policy_core.specs.declared.site.PathBase.{PathBase}
use Rattle.automation_rules.specs.declared.firing.Firing.{Firing}
use Rattle.automation_rules.specs.Memory.{RuleMemory, PathMemory, is_live, kept_firing, name_kept}
use Rattle.automation_rules.specs.Matches.{PathRules, Noted, IsLatest, rule_at, has_rule, is_of, moments_of, firings_of, is_in_force, firings_in_force, is_rule_in_force, limits_at, is_halted, are_same_sites, is_covered, least, next_end}
use Rattle.automation_rules.specs.Standing.{paths_of, kept_of, kept_firings, RuleStandsFor, StandsFor}
use Rattle.automation_rules.specs.inside.Noting.{is_by}
use Rattle.automation_rules.specs.inside.Showing.{firings_at, halts_by, is_covering_path, is_ending_path}
use Rattle.automation_rules.proofs.AnyLemmas.{any-map, any-filter}
use Rattle.automation_rules.proofs.KeyLemmas.{any_same, any_numbered, any_keyed, any_enumerated, any_and, filter_numbered}
use Rattle.automation_rules.proofs.MatchSteps.{all_firings, latest_moments}
use Rattle.automation_rules.proofs.StandingSteps.{known_rule}

live_is : (t : ℕ) (f : Noted) → f.at ≤ t → is_in_force t f ≡ is_live t (kept_of f)
live_is t f before = rw (le-leb f.at t before) refl

map_all : {A : Type 0} (P Q : A → Type 0) (xs : List A) → ((x : A) → P x → Q x) → AllByRecursion P xs → AllByRecursion Q xs
map_all P Q [] h all = tt
map_all P Q (x ∷ xs) h all = (h x all.0, map_all P Q xs h all.1)

-- what some firing of the rule of a number shows
pub rule_any : (state : List PathMemory) (ms : List Noted) (path number t : ℕ) (p : PathMemory) (test : Firing → Bool)
    → StandsFor state ms → IsLatest t ms → path < length state → p ≡ get_or state path p → 1 ≤ number → number - 1 < length p.base.rules
    → list_any test (filter (is_live t) (firings_at p.rules number)) ≡ list_any (λ f. is_of path number f && (is_in_force t f && test (kept_of f))) (firings_of ms)
rule_any state ms path number t p test stands latest within here counted inside =
    ap (list_any test) (own.live t moments)
    ∙ any-filter test (is_live t) (kept_firings path number ms)
    ∙ any-map (λ k. is_live t k && test k) kept_of (filter (is_of path number) (firings_of ms))
    ∙ any-filter (λ (f : Noted). is_live t (kept_of f) && test (kept_of f)) (is_of path number) (firings_of ms)
    ∙ any_same _ _ (firings_of ms)
    (map_all (λ (f : Noted). f.at ≤ t) (λ f. (is_of path number f && (is_live t (kept_of f) && test (kept_of f))) ≡ (is_of path number f && (is_in_force t f && test (kept_of f)))) (firings_of ms)
    (λ f before. ap (λ b. is_of path number f && (b && test (kept_of f))) (sym (live_is t f before))) (all_firings (λ (f : Noted). f.at ≤ t) ms latest)) where
      blank : RuleMemory
      blank = record { most = 0; moments = []; firings = [] }

      long : length p.rules ≡ length p.base.rules
      long = subst (λ (r : PathMemory). length r.rules ≡ length r.base.rules) (sym here) (All-get_or (λ (r : PathMemory). length r.rules ≡ length r.base.rules) state path p within stands.whole)

      s : RuleMemory
      s = get_or p.rules (number - 1) blank

      rule : (x : Rule) × (slice_get p.base.rules (number - 1) ≡ Some x)
      rule = slice_get-some p.base.rules (number - 1) inside

      there : rule.0 ≡ get_or p.base.rules (number - 1) rule.0
      there = sym (get_or_from_slice_get p.base.rules (number - 1) rule.0 rule.0 rule.1)

      has : number - 1 < length p.rules
      has = omega (arith, long)

      mine : s ≡ get_or p.rules (number - 1) s
      mine = get_or_default p.rules (number - 1) blank s has

      counts : number - 1 + 1 ≡ number
      counts = omega arith

      own : RuleStandsFor rule.0 s (moments_of path number ms) (kept_firings path number ms)
      own =
          subst (λ k. RuleStandsFor rule.0 s (moments_of path k ms) (kept_firings path k ms)) counts
          (stands.rules path (number - 1) p rule.0 s within here has there mine)

      moments : AllByRecursion (λ s. s ≤ t) (moments_of path number ms)
      moments = latest_moments t path number ms (recursion_from_All (λ (m : Noted). m.at ≤ t) ms latest)

and_turn : (a b c : Bool) → ((a && b) && c) ≡ (b && (a && c))
and_turn true true c = refl
and_turn true false c = refl
and_turn false true c = refl
and_turn false false c = refl

-- what some firing of a path shows
pub path_any : (state : List PathMemory) (ms : List Noted) (path t : ℕ) (p : PathMemory) (test : Rule → Firing → Bool)
    → StandsFor state ms → IsLatest t ms → path < length state → p ≡ get_or state path p
    → list_any (λ (r : ℕ × Rule). list_any (test r.1) (filter (is_live t) (firings_at p.rules r.0))) (numbered_rules p.base)
    ≡ list_any (λ f. (f.path == path) && (is_in_force t f && test f.rule (kept_of f))) (firings_of ms)
path_any state ms path t p test stands latest within here =
    any_numbered (λ (r : ℕ × Rule). list_any (test r.1) (filter (is_live t) (firings_at p.rules r.0))) (λ (r : ℕ × Rule). list_any (λ f. is_of path r.0 f && shown r.1 f) (firings_of ms)) 1 p.base.rules by_rule
    ∙ any_numbered (λ (r : ℕ × Rule). list_any (λ f. is_of path r.0 f && shown r.1 f) (firings_of ms)) (λ (r : ℕ × Rule). list_any (λ f. (f.number == r.0) && shown r.1 f) own) 1 p.base.rules turned
    ∙ any_keyed (λ (f : Noted). f.number) shown (λ f. shown f.rule f) 1 p.base.rules own named
    ∙ any-filter (λ f. shown f.rule f) (λ (f : Noted). f.path == path) (firings_of ms) where
      shown : Rule → Noted → Bool
      shown x f = is_in_force t f && test x (kept_of f)

      own : List Noted
      own = filter (λ (f : Noted). f.path == path) (firings_of ms)

      by_rule : (i : ℕ) (x : Rule) → slice_get p.base.rules i ≡ Some x
          → list_any (test x) (filter (is_live t) (firings_at p.rules (1 + i))) ≡ list_any (λ f. is_of path (1 + i) f && shown x f) (firings_of ms)
      by_rule i x at =
          let inside = slice_get_within p.base.rules i x at in
          rule_any state ms path (1 + i) t p (test x) stands latest within here (omega arith) (omega (arith, inside))

      turned : (i : ℕ) (x : Rule) → slice_get p.base.rules i ≡ Some x
          → list_any (λ f. is_of path (1 + i) f && shown x f) (firings_of ms) ≡ list_any (λ f. (f.number == (1 + i)) && shown x f) own
      turned i x at =
          any_same _ _ (firings_of ms) (all_turned (firings_of ms))
          ∙ sym (any-filter (λ f. (f.number == (1 + i)) && shown x f) (λ (f : Noted). f.path == path) (firings_of ms)) where
            all_turned : (fs : List Noted) → AllByRecursion (λ f. (is_of path (1 + i) f && shown x f) ≡ ((f.path == path) && ((f.number == (1 + i)) && shown x f))) fs
            all_turned [] = tt
            all_turned (f ∷ fs) = (and_turn (f.number == (1 + i)) (f.path == path) (shown x f), all_turned fs)

      named : AllByRecursion (λ f. (x : Rule) × ((1 ≤ f.number) × ((slice_get p.base.rules (f.number - 1) ≡ Some x) × (shown x f ≡ shown f.rule f)))) own
      named = named_in (firings_of ms) (all_firings (λ n. rule_at (paths_of state) n.path n.number ≡ Some n.rule) ms stands.known) where
        name_of : (f : Noted) → (f.path == path) ≡ true → rule_at (paths_of state) f.path f.number ≡ Some f.rule
            → (x : Rule) × ((1 ≤ f.number) × ((slice_get p.base.rules (f.number - 1) ≡ Some x) × (shown x f ≡ shown f.rule f)))
        name_of f same known =
            let k = known_rule state f.path f.number f.rule known in
            let e = eqb-true f.path path same in
            let found = k.there p (here ∙ ap (λ i. get_or state i p) (sym e)) in
            (f.rule, (k.from_one, (slice_get-get_or p.base.rules (f.number - 1) f.rule found.0 ∙ ap Some (sym found.1), refl)))

        named_in : (fs : List Noted) → AllByRecursion (λ n. rule_at (paths_of state) n.path n.number ≡ Some n.rule) fs
            → AllByRecursion (λ f. (x : Rule) × ((1 ≤ f.number) × ((slice_get p.base.rules (f.number - 1) ≡ Some x) × (shown x f ≡ shown f.rule f)))) (filter (λ (f : Noted). f.path == path) fs)
        named_in [] all = tt
        named_in (f ∷ fs) all = by (f.path == path) refl (named_in fs all.1) (λ same. name_of f same all.0) where
          by : (b : Bool) → (f.path == path) ≡ b
              → AllByRecursion (λ f. (x : Rule) × ((1 ≤ f.number) × ((slice_get p.base.rules (f.number - 1) ≡ Some x) × (shown x f ≡ shown f.rule f)))) (filter (λ (f : Noted). f.path == path) fs)
              → ((f.path == path) ≡ true → (x : Rule) × ((1 ≤ f.number) × ((slice_get p.base.rules (f.number - 1) ≡ Some x) × (shown x f ≡ shown f.rule f))))
              → AllByRecursion (λ f. (x : Rule) × ((1 ≤ f.number) × ((slice_get p.base.rules (f.number - 1) ≡ Some x) × (shown x f ≡ shown f.rule f)))) (filter (λ (f : Noted). f.path == path) (f ∷ fs))
          by true is more one = rw is (one is, more)
          by false is more one = rw is more

-- what some firing of any path shows, where the path itself passes too
pub paths_any : (state : List PathMemory) (ms : List Noted) (t : ℕ) (pass : PathMemory → Bool) (test : Rule → Firing → Bool) (alone : Noted → Bool)
    → StandsFor state ms → IsLatest t ms
    → ((f : Noted) (p : PathMemory) → slice_get state f.path ≡ Some p → (pass p && (is_in_force t f && test f.rule (kept_of f))) ≡ alone f)
    → list_any (λ p. pass p && list_any (λ (r : ℕ × Rule). list_any (test r.1) (filter (is_live t) (firings_at p.rules r.0))) (numbered_rules p.base)) state
    ≡ list_any alone (firings_of ms)
paths_any state ms t pass test alone stands latest says =
    any_enumerated (λ p. pass p && inner p) 0 state
    ∙ any_numbered (λ (r : ℕ × PathMemory). pass r.1 && inner r.1) (λ (r : ℕ × PathMemory). list_any (λ f. (f.path == r.0) && (pass r.1 && shown f)) (firings_of ms)) 0 state by_path
    ∙ any_keyed (λ (f : Noted). f.path) (λ p f. pass p && shown f) alone 0 state (firings_of ms)
    (map_all (λ n. rule_at (paths_of state) n.path n.number ≡ Some n.rule) (λ f. (p : PathMemory) × ((0 ≤ f.path) × ((slice_get state (f.path - 0) ≡ Some p) × ((pass p && shown f) ≡ alone f)))) (firings_of ms)
    name_of (all_firings (λ n. rule_at (paths_of state) n.path n.number ≡ Some n.rule) ms stands.known)) where
      inner : PathMemory → Bool
      inner p = list_any (λ (r : ℕ × Rule). list_any (test r.1) (filter (is_live t) (firings_at p.rules r.0))) (numbered_rules p.base)

      shown : Noted → Bool
      shown f = is_in_force t f && test f.rule (kept_of f)

      by_path : (i : ℕ) (p : PathMemory) → slice_get state i ≡ Some p
          → (pass p && inner p) ≡ list_any (λ f. (f.path == (0 + i)) && (pass p && shown f)) (firings_of ms)
      by_path i p at =
          let none_before : i ≡ 0 + i = omega arith in
          ap (λ b. pass p && b) (path_any state ms i t p test stands latest (slice_get_within state i p at) (sym (get_or_from_slice_get state i p p at)))
          ∙ any_and (pass p) (λ (f : Noted). f.path == i) shown (firings_of ms)
          ∙ ap (λ k. list_any (λ (f : Noted). (f.path == k) && (pass p && shown f)) (firings_of ms)) none_before

      name_of : (f : Noted) → rule_at (paths_of state) f.path f.number ≡ Some f.rule
          → (p : PathMemory) × ((0 ≤ f.path) × ((slice_get state (f.path - 0) ≡ Some p) × ((pass p && shown f) ≡ alone f)))
      name_of f known =
          let found = slice_get-some state f.path (known_rule state f.path f.number f.rule known).path_within in
          let none_less : f.path - 0 ≡ f.path = omega arith in
          (found.0, (omega arith, (ap (slice_get state) none_less ∙ found.1, says f found.0 found.1)))

any_fixed : (b : Bool) (live : Firing → Bool) (fs : List Firing) → list_any (λ k. b) (filter live fs) ≡ (b && list_any live fs)
any_fixed b live [] = sym (and_false b) where
  and_false : (a : Bool) → (a && false) ≡ false
  and_false true = refl
  and_false false = refl
any_fixed b live (f ∷ fs) = by b (live f) refl (any_fixed b live fs) where
  by : (b l : Bool) → live f ≡ l → list_any (λ k. b) (filter live fs) ≡ (b && list_any live fs)
      → list_any (λ k. b) (filter live (f ∷ fs)) ≡ (b && list_any live (f ∷ fs))
  by true true is more = rw is refl
  by false true is more = rw is more
  by true false is more = rw is more
  by false false is more = rw is more

path_there : (state : List PathMemory) (path : ℕ) (p : PathMemory) → path < length state → p ≡ get_or state path p
    → slice_get (paths_of state) path ≡ Some (record { base = p.base; site = p.site })
path_there state path p within here =
    slice_get-map (λ (q : PathMemory). record { base = q.base; site = q.site }) state path
    ∙ ap (option_map (λ (q : PathMemory). record { base = q.base; site = q.site })) (slice_get-get_or state path p within ∙ ap Some (sym here))

rule_there : (paths : List PathRules) (path number : ℕ) → has_rule paths path number ≡ true → (x : Rule) × (rule_at paths path number ≡ Some x)
rule_there paths path number has = by (rule_at paths path number) refl where
  by : (o : Option Rule) → rule_at paths path number ≡ o → (x : Rule) × (rule_at paths path number ≡ Some x)
  by None at = absurd (false≢true (sym (ap is_some at) ∙ has))
  by (Some x) at = (x, at)

and_plain : (a b : Bool) → (a && (b && true)) ≡ (b && a)
and_plain true true = refl
and_plain true false = refl
and_plain false true = refl
and_plain false false = refl

all_of : {A : Type 0} (P : A → Type 0) → ((x : A) → P x) → (xs : List A) → AllByRecursion P xs
all_of P h [] = tt
all_of P h (x ∷ xs) = (h x, all_of P h xs)

rule_shown : (state : List PathMemory) (ms : List Noted) (path number t : ℕ) (p : PathMemory) → StandsFor state ms → IsLatest t ms
    → path < length state → p ≡ get_or state path p → 1 ≤ number → number - 1 < length p.base.rules
    → list_any (is_live t) (firings_at p.rules number) ≡ is_rule_in_force ms t path number
rule_shown state ms path number t p stands latest within here counted inside =
    sym (any_fixed true (is_live t) (firings_at p.rules number))
    ∙ rule_any state ms path number t p (λ k. true) stands latest within here counted inside
    ∙ any_same _ _ (firings_of ms)
    (all_of (λ f. (is_of path number f && (is_in_force t f && true)) ≡ (is_in_force t f && is_of path number f)) (λ f. and_plain (is_of path number f) (is_in_force t f)) (firings_of ms))
    ∙ sym (any-filter (is_of path number) (is_in_force t) (firings_of ms))

pub in_force_answer : (state : List PathMemory) (ms : List Noted) (path number t : ℕ) (p : PathMemory) → StandsFor state ms → IsLatest t ms
    → has_rule (paths_of state) path number ≡ true → p ≡ get_or state path p
    → list_any (is_live t) (firings_at p.rules (number - 1 + 1)) ≡ is_rule_in_force ms t path number
in_force_answer state ms path number t p stands latest has here =
    let x = rule_there (paths_of state) path number has in
    let k = known_rule state path number x.0 x.1 in
    let counts : number - 1 + 1 ≡ number = omega (arith, k.from_one) in
    ap (λ n. list_any (is_live t) (firings_at p.rules n)) counts
    ∙ rule_shown state ms path number t p stands latest k.path_within here k.from_one (k.there p here).0

limits_same : (base : PathBase) (a b : ℕ → Bool) → filter (λ (r : ℕ × Rule). a r.0) (numbered_rules base) ≡ filter (λ (r : ℕ × Rule). b r.0) (numbered_rules base)
    → limits_of base a ≡ limits_of base b
unfolding limits_of
limits_same base a b same = ap (λ rules. in_force_by rules (in_force_of base.options)) same

pub limits_answer : (state : List PathMemory) (ms : List Noted) (path t : ℕ) (p : PathMemory) → StandsFor state ms → IsLatest t ms
    → path < length state → p ≡ get_or state path p
    → Some (limits_of p.base (λ n. list_any (is_live t) (firings_at p.rules n))) ≡ limits_at (paths_of state) ms t path
limits_answer state ms path t p stands latest within here =
    ap Some (limits_same p.base (λ n. list_any (is_live t) (firings_at p.rules n)) (is_rule_in_force ms t path)
    (filter_numbered (λ n. list_any (is_live t) (firings_at p.rules n)) (is_rule_in_force ms t path) 1 p.base.rules shown))
    ∙ sym (ap (option_map (λ (q : PathRules). limits_of q.base (is_rule_in_force ms t path))) (path_there state path p within here)) where
      shown : (i : ℕ) (x : Rule) → slice_get p.base.rules i ≡ Some x
          → list_any (is_live t) (firings_at p.rules (1 + i)) ≡ is_rule_in_force ms t path (1 + i)
      shown i x at =
          let inside = slice_get_within p.base.rules i x at in
          rule_shown state ms path (1 + i) t p stands latest within here (omega arith) (omega (arith, inside))

and_round : (a b c : Bool) → (a && (b && c)) ≡ (b && (c && a))
and_round true true c = sym (and_true c) where
  and_true : (d : Bool) → (d && true) ≡ d
  and_true true = refl
  and_true false = refl
and_round true false c = refl
and_round false true c = sym (and_false c) where
  and_false : (d : Bool) → (d && false) ≡ false
  and_false true = refl
  and_false false = refl
and_round false false c = refl

pub halted_answer : (state : List PathMemory) (ms : List Noted) (path t : ℕ) (p : PathMemory) → StandsFor state ms → IsLatest t ms
    → path < length state → p ≡ get_or state path p → list_any (halts_by t (firings_at p.rules)) (numbered_rules p.base) ≡ is_halted ms t path
halted_answer state ms path t p stands latest within here =
    any_numbered (halts_by t (firings_at p.rules)) (λ (r : ℕ × Rule). list_any (λ k. is_suspend r.1.action) (filter (is_live t) (firings_at p.rules r.0))) 1 p.base.rules
    (λ i x at. sym (any_fixed (is_suspend x.action) (is_live t) (firings_at p.rules (1 + i))))
    ∙ path_any state ms path t p (λ x k. is_suspend x.action) stands latest within here
    ∙ any_same _ _ (firings_of ms)
    (all_of (λ f. ((f.path == path) && (is_in_force t f && is_suspend f.rule.action)) ≡ (is_in_force t f && (is_suspend f.rule.action && (f.path == path))))
    (λ f. and_round (f.path == path) (is_in_force t f) (is_suspend f.rule.action)) (firings_of ms))
    ∙ sym (any-filter (λ f. is_suspend f.rule.action && (f.path == path)) (is_in_force t) (firings_of ms))

covers_kept : (a : Action) (e : ℕ) (fired name : Name) → covers a (name_kept (kept_firing a e fired)) name ≡ covers a fired name
covers_kept action.Suspend e fired name = refl
covers_kept action.SuspendTenant e fired name = refl
covers_kept action.SuspendCampaign e fired name = refl
covers_kept (action.Set s) e fired name = refl
covers_kept action.Nothing e fired name = refl

and_swap : (a b c : Bool) → (a && (b && c)) ≡ (b && (a && c))
and_swap true true c = refl
and_swap true false c = refl
and_swap false true c = refl
and_swap false false c = refl

pub covers_answer : (state : List PathMemory) (ms : List Noted) (path t : ℕ) (here : PathMemory) (name : Name) → StandsFor state ms → IsLatest t ms
    → path < length state → here ≡ get_or state path here
    → list_any (λ p. is_same_site p.site here.site && is_covering_path t name p) state ≡ is_covered (paths_of state) ms t path name
covers_answer state ms path t here name stands latest within at =
    paths_any state ms t (λ p. is_same_site p.site here.site) (λ x k. covers x.action (name_kept k) name)
    (λ f. is_in_force t f && (are_same_sites (slice_get (paths_of state) f.path) (slice_get (paths_of state) path) && covers f.rule.action f.name name)) stands latest says
    ∙ sym (any-filter (λ f. are_same_sites (slice_get (paths_of state) f.path) (slice_get (paths_of state) path) && covers f.rule.action f.name name) (is_in_force t) (firings_of ms)) where
      says : (f : Noted) (p : PathMemory) → slice_get state f.path ≡ Some p
          → (is_same_site p.site here.site && (is_in_force t f && covers f.rule.action (name_kept (kept_of f)) name))
          ≡ (is_in_force t f && (are_same_sites (slice_get (paths_of state) f.path) (slice_get (paths_of state) path) && covers f.rule.action f.name name))
      says f p there =
          let one = path_there state f.path p (slice_get_within state f.path p there) (sym (get_or_from_slice_get state f.path p p there)) in
          let other = path_there state path here within at in
          and_swap (is_same_site p.site here.site) (is_in_force t f) (covers f.rule.action (name_kept (kept_of f)) name)
          ∙ ap (λ b. is_in_force t f && (is_same_site p.site here.site && b)) (covers_kept f.rule.action (end_of f.at f.rule.duration) f.name name)
          ∙ sym (ap (λ a. is_in_force t f && (are_same_sites a (slice_get (paths_of state) path) && covers f.rule.action f.name name)) one
          ∙ ap (λ b. is_in_force t f && (are_same_sites (Some (record { base = p.base; site = p.site })) b && covers f.rule.action f.name name)) other)

least_by : (u : ℕ) (es : List ℕ) → is_by u (least es) ≡ list_any (λ e. nat_le e u) es
least_by u [] = refl
least_by u (e ∷ es) = by (least es) refl (least_by u es) where
  or_false : (a : Bool) → (a || false) ≡ a
  or_false true = refl
  or_false false = refl

  not_le : (a b : ℕ) → b < a → nat_le a b ≡ false
  not_le a b below = by_le (nat_le a b) refl where
    by_le : (r : Bool) → nat_le a b ≡ r → nat_le a b ≡ false
    by_le false is = is
    by_le true is = absurd (omega (arith, leb-true a b is))

  min_by : (k : ℕ) → nat_le (min e k) u ≡ (nat_le e u || nat_le k u)
  min_by k = by_min (cases_lt u e) (cases_lt u k) where
    by_min : (u < e) ⊎ (e ≤ u) → (u < k) ⊎ (k ≤ u) → nat_le (min e k) u ≡ (nat_le e u || nat_le k u)
    by_min (inr below) other = le-leb (min e k) u (omega arith) ∙ sym (ap (λ b. b || nat_le k u) (le-leb e u below))
    by_min (inl past) (inr below) = le-leb (min e k) u (omega arith) ∙ sym (rw (not_le e u past, le-leb k u below) refl)
    by_min (inl past) (inl far) = not_le (min e k) u (omega arith) ∙ sym (rw (not_le e u past, not_le k u far) refl)

  by : (o : Option ℕ) → least es ≡ o → is_by u (least es) ≡ list_any (λ e. nat_le e u) es → is_by u (least (e ∷ es)) ≡ list_any (λ e. nat_le e u) (e ∷ es)
  by None at more =
      ap (λ o. nat_le (unwrap_or (option_map (min e) o) e) u) at
      ∙ sym (ap (λ b. nat_le e u || b) (sym more ∙ ap (is_by u) at) ∙ or_false (nat_le e u))
  by (Some k) at more =
      ap (λ o. nat_le (unwrap_or (option_map (min e) o) e) u) at ∙ min_by k
      ∙ ap (λ b. nat_le e u || b) (sym (ap (is_by u) at) ∙ more)

same_by : (a b : Option ℕ) → ((u : ℕ) → is_by u a ≡ is_by u b) → a ≡ b
same_by None None same = refl
same_by None (Some e) same = absurd (false≢true (same e ∙ le-leb e e (omega arith)))
same_by (Some e) None same = absurd (false≢true (sym (same e) ∙ le-leb e e (omega arith)))
same_by (Some d) (Some e) same =
    let one = leb-true e d (sym (same d) ∙ le-leb d d (omega arith)) in
    let other = leb-true d e (same e ∙ le-leb e e (omega arith)) in
    let is : d ≡ e = omega (arith, one, other) in
    ap Some is

pub next_end_answer : (state : List PathMemory) (ms : List Noted) (t : ℕ) (r : Option ℕ) → StandsFor state ms → IsLatest t ms
    → ((u : ℕ) → is_by u r ≡ list_any (is_ending_path t u) state) → r ≡ next_end ms t
next_end_answer state ms t r stands latest says =
    same_by r (next_end ms t) (λ u. says u
    ∙ paths_any state ms t (λ p. true) (λ x k. nat_le k.end u) (λ f. is_in_force t f && nat_le (end_of f.at f.rule.duration) u) stands latest (λ f p there. refl)
    ∙ sym (any-filter (λ f. nat_le (end_of f.at f.rule.duration) u) (is_in_force t) (firings_of ms))
    ∙ sym (any-map (λ e. nat_le e u) (λ (f : Noted). end_of f.at f.rule.duration) (firings_in_force ms t))
    ∙ sym (least_by u (map (λ (f : Noted). end_of f.at f.rule.duration) (firings_in_force ms t))))
