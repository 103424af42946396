-- Over a whole legal history the moments that are counted under a key keep the rate that it stands for.
use Rattle.std.proofs.Common.{◌≡◌, ◌≤◌, ◌+◌, ◌⊎◌, inl, inr, ⊎_elim, ℕ, List, [], ◌∷◌, ◌++◌, Bool, true, false, cond, ◌&&◌, Option, Some, None, option_map, unwrap_or, map, filter, eqb, bytes_eq, arith, refl, sym, ap, subst, ◌∙◌, append-nil}
use Rattle.std.specs.List.{Contains, find, enumerate_from}
use Rattle.std.specs.Option.{option_or, option_and_then}
use Rattle.std.proofs.lemmas.Bool.{and_parts, eq-eqb, eqb-true, ne_eqb}
use Rattle.std.proofs.lemmas.Option.{same_Some}
use Rattle.std.proofs.lemmas.Slice.Eq.{bytes_eq-Decides}
use Rattle.kumo_base.specs.Moment.{clamped}
use Rattle.throttle_spec.specs.Throttle.{Throttle, Conforms}
use Rattle.policy_core.specs.Policy.{Policy}
use Rattle.policy_core.specs.Layers.{last_set}
use Rattle.policy_core.specs.PathTables.{base_of}
use Rattle.policy_core.specs.PathOptions.{in_force_of}
use Rattle.policy_core.specs.Automation.{set_by, key_by, message_rate_in, connection_rate_in, limits_of}
use Rattle.policy_core.specs.declared.rules.Rule.{Rule}
use Rattle.policy_core.specs.declared.rules.Setting.{Setting}
use Rattle.policy_core.specs.declared.site.PathBase.{PathBase}
use Rattle.history_core.specs.declared.entry.Entry.{Entry}
use Rattle.history_core.specs.declared.entry.Event.{Event}
use Rattle.history_core.specs.declared.entry.Event.TheVariants.{Opened, Begun}
use Rattle.history_core.specs.declared.path.Path.{Path}
use Rattle.history_core.specs.History.{paths, path_named, text_of}
use Rattle.history_core.specs.Connection.{Connection, path_of_connection}
use Rattle.history_core.specs.Limits.{limits, opened_moments, begun_at, begun_moments, is_text}
use Rattle.history_core.specs.Legal.{MayFollow, IsLegal}
use Rattle.history_core.specs.Allowed.{KeepsRate, AllowsOpening, AllowsAttempt}
use Rattle.history_core.specs.KeyRates.{rate_under, message_rate_of_key, connection_rate_of_key, IsOnlyPath}
use Rattle.history_core.proofs.Lists.{there_none, there_first, there_later, there_cases, filter_there, find_none}
use Rattle.history_core.proofs.LegalLemmas.{IsLegal-along}
use Rattle.history_core.proofs.OneMore.{path_named-kept, paths-kept, opened_moments-more, begun_moments-more}
use Rattle.history_core.proofs.AllowedLemmas.{clamped_within, opening, attempt}

-- the last of the rules that set an option gives both the rate and the key
record SetsLast (option : Setting → Option Throttle) (rules : List (ℕ × Rule)) : Type 0 where
  rule : ℕ × Rule
  value : Throttle
  there : Contains rules rule
  sets : set_by option rule ≡ Some value
  last : last_set rules (set_by option) ≡ Some value
  key : last_set rules (key_by option) ≡ Some rule.0

abbrev SetsNone : (Setting → Option Throttle) → List (ℕ × Rule) → Type 0
SetsNone option rules = (last_set rules (set_by option) ≡ None) × (last_set rules (key_by option) ≡ None)

sets_here : (option : Setting → Option Throttle) (r : ℕ × Rule) (later : List (ℕ × Rule)) (o : Option Throttle) → set_by option r ≡ o → SetsNone option later
    → SetsNone option (r ∷ later) ⊎ SetsLast option (r ∷ later)
sets_here option r later None is none =
    inl (ap (λ o. option_or o (set_by option r)) none.0 ∙ is, ap (λ o. option_or o (key_by option r)) none.1 ∙ ap (option_map (λ (v : Throttle). r.0)) is)
sets_here option r later (Some v) is none = inr (record {
  rule = r;
  value = v;
  there = there_first r later;
  sets = is;
  last = ap (λ o. option_or o (set_by option r)) none.0 ∙ is;
  key = ap (λ o. option_or o (key_by option r)) none.1 ∙ ap (option_map (λ (v : Throttle). r.0)) is;
})

sets_later : (option : Setting → Option Throttle) (r : ℕ × Rule) (later : List (ℕ × Rule)) → SetsLast option later → SetsLast option (r ∷ later)
sets_later option r later found = record {
  rule = found.rule;
  value = found.value;
  there = there_later r later found.rule found.there;
  sets = found.sets;
  last = ap (λ o. option_or o (set_by option r)) found.last;
  key = ap (λ o. option_or o (key_by option r)) found.key;
}

sets_cases : (option : Setting → Option Throttle) (rules : List (ℕ × Rule)) → SetsNone option rules ⊎ SetsLast option rules
sets_cases option [] = inl (refl, refl)
sets_cases option (r ∷ later) =
    ⊎_elim (λ none. sets_here option r later (set_by option r) refl none) (λ found. inr (sets_later option r later found)) (sets_cases option later)

-- a numbered rule is found by its number
numbered_found : (n : ℕ) (rules : List Rule) (r : ℕ × Rule) → Contains (enumerate_from n rules) r
    → (n ≤ r.0) × (find (λ (x : ℕ × Rule). eqb x.0 r.0) (enumerate_from n rules) ≡ Some r)
numbered_found n [] r there = absurd (there_none r there)
numbered_found n (rule ∷ rules) r there =
    ⊎_elim
    (λ first.
    let number : n ≡ r.0 = ap (λ (x : ℕ × Rule). x.0) first in (
      omega (arith, number),
      ap (λ b. cond b (Some (n, rule)) (find (λ (x : ℕ × Rule). eqb x.0 r.0) (enumerate_from (n + 1) rules))) (eq-eqb n r.0 number) ∙ ap Some first,
    ))
    (λ later.
    let (above, found) = numbered_found (n + 1) rules r later in (
      omega (arith, above),
      ap (λ b. cond b (Some (n, rule)) (find (λ (x : ℕ × Rule). eqb x.0 r.0) (enumerate_from (n + 1) rules))) (ne_eqb n r.0 (λ same. omega (arith, same, above))) ∙ found,
    ))
    (there_cases (n, rule) (enumerate_from (n + 1) rules) r there)

-- the rate in force is that which its key stands for
key_stands : (option : Setting → Option Throttle) (own : Option Throttle) (rules : List Rule) (test : ℕ → Bool) (key : ℕ) (s : Throttle)
    → key ≡ unwrap_or (last_set (filter (λ (r : ℕ × Rule). test r.0) (enumerate_from 1 rules)) (key_by option)) 0
    → rate_under option own (enumerate_from 1 rules) key ≡ Some s
    → option_or (last_set (filter (λ (r : ℕ × Rule). test r.0) (enumerate_from 1 rules)) (set_by option)) own ≡ Some s
key_stands option own rules test key s keyed stands = by (sets_cases option set)
  where
    set : List (ℕ × Rule)
    set = filter (λ (r : ℕ × Rule). test r.0) (enumerate_from 1 rules)

    by : SetsNone option set ⊎ SetsLast option set → option_or (last_set set (set_by option)) own ≡ Some s
    by (inl none) =
        let zero_key : key ≡ 0 = keyed ∙ ap (λ o. unwrap_or o 0) none.1 in
        ap (λ o. option_or o own) none.0 ∙ subst (λ k. rate_under option own (enumerate_from 1 rules) k ≡ Some s) zero_key stands
    by (inr found) =
        let number : key ≡ found.rule.0 = keyed ∙ ap (λ o. unwrap_or o 0) found.key in
        let there : Contains (enumerate_from 1 rules) found.rule = (filter_there (λ (r : ℕ × Rule). test r.0) (enumerate_from 1 rules) found.rule found.there).0 in
        let (above, it) = numbered_found 1 rules found.rule there in
        let some : eqb found.rule.0 0 ≡ false = ne_eqb found.rule.0 0 (λ same. omega (arith, same, above)) in
        let under : rate_under option own (enumerate_from 1 rules) found.rule.0 ≡ Some found.value =
        ap (λ b. cond b own (option_and_then (set_by option) (find (λ (x : ℕ × Rule). eqb x.0 found.rule.0) (enumerate_from 1 rules)))) some
        ∙ ap (option_and_then (set_by option)) it ∙ found.sets in
        ap (λ o. option_or o own) found.last ∙ sym under ∙ subst (λ k. rate_under option own (enumerate_from 1 rules) k ≡ Some s) number stands

pub message_key_stands : (base : PathBase) (test : ℕ → Bool) (key : ℕ) (s : Throttle) → key ≡ (limits_of base test).message_key
    → message_rate_of_key base key ≡ Some s → (limits_of base test).message_rate ≡ Some s
unfolding limits_of
message_key_stands base test key s keyed stands = key_stands message_rate_in (in_force_of base.options).message_rate base.rules test key s keyed stands

pub connection_key_stands : (base : PathBase) (test : ℕ → Bool) (key : ℕ) (s : Throttle) → key ≡ (limits_of base test).connection_key
    → connection_rate_of_key base key ≡ Some s → (limits_of base test).connection_rate ≡ Some s
unfolding limits_of
connection_key_stands base test key s keyed stands = key_stands connection_rate_in (in_force_of base.options).connection_rate base.rules test key s keyed stands

none_conforms : (s : Throttle) (moments : List ℕ) → moments ≡ [] → Conforms s moments
none_conforms s moments is = subst (Conforms s) (sym is) (λ i j order below. absurd (omega (arith, below)))

-- what one entry adds to the moments of a text and a key
record AddsMoment (policy : Policy) (h : List Entry) (e : Entry) (text : List ℕ) (key : ℕ) : Type 0 where
  path : Path
  named : path_named policy h text ≡ Some path
  moment : begun_at text key h e ≡ e.at ∷ []
  keyed : key ≡ (limits policy h e.at path).message_key
  rate : KeepsRate (limits policy h e.at path).message_rate (begun_moments h text key ++ e.at ∷ [])

text_same : (o : Option (List ℕ)) (found text : List ℕ) → o ≡ Some found → is_text o text ≡ true → found ≡ text
text_same o found text is passes = (bytes_eq-Decides found text).0 (ap (λ o. is_text o text) (sym is) ∙ passes)

adds_begun : (policy : Policy) (h : List Entry) (at who conn id of : ℕ) (text : List ℕ) (key : ℕ) → clamped at ≡ at → AllowsAttempt policy h at conn id of
    → (b : Bool) → (eqb of key && is_text (path_of_connection h conn) text) ≡ b
    → (begun_at text key h (record { at = at; who = who; what = Begun conn id of }) ≡ []) ⊎ AddsMoment policy h (record { at = at; who = who; what = Begun conn id of }) text key
adds_begun policy h at who conn id of text key moment allows false is = inl (ap (λ b. cond b (clamped at ∷ []) []) is)
adds_begun policy h at who conn id of text key moment allows true is =
    let (same, passes) = and_parts (eqb of key) (is_text (path_of_connection h conn) text) is in
    let it : of ≡ key = eqb-true of key same in
    let found : path_of_connection h conn ≡ Some allows.connection.path = ap (option_map (λ (c : Connection). c.path)) allows.was_opened in
    let text_is : allows.connection.path ≡ text = text_same (path_of_connection h conn) allows.connection.path text found passes in
    inr (record {
      path = allows.path;
      named = subst (λ x. path_named policy h x ≡ Some allows.path) text_is allows.has_path;
      moment = ap (λ b. cond b (clamped at ∷ []) []) is ∙ ap (λ t. t ∷ []) moment;
      keyed = sym it ∙ allows.has_key;
      rate = subst (λ k. KeepsRate (limits policy h at allows.path).message_rate (begun_moments h text k ++ at ∷ [])) it
          (subst (λ x. KeepsRate (limits policy h at allows.path).message_rate (begun_moments h x of ++ at ∷ [])) text_is allows.rate);
    })

adds : (policy : Policy) (h : List Entry) → IsLegal policy h → (at who : ℕ) (e : Event) (text : List ℕ) (key : ℕ) → MayFollow policy h (record { at = at; who = who; what = e })
    → (begun_at text key h (record { at = at; who = who; what = e }) ≡ []) ⊎ AddsMoment policy h (record { at = at; who = who; what = e }) text key
adds policy h legal at who (Begun conn id of) text key follows =
    adds_begun policy h at who conn id of text key (clamped_within at follows.proper.moment) (attempt policy h at who conn id of legal follows.proper.moment follows.row)
    (eqb of key && is_text (path_of_connection h conn) text) refl
adds policy h legal at who _ text key follows = inl refl

-- what has no name has no moments; what has one keeps its rates
record KeepsRates (policy : Policy) (h : List Entry) : Type 0 where
  unnamed : (text : List ℕ) (key : ℕ) → path_named policy h text ≡ None → begun_moments h text key ≡ []
  named : (text : List ℕ) (p : Path) → path_named policy h text ≡ Some p → (key : ℕ) (s : Throttle)
      → message_rate_of_key (base_of policy p.site p.source) key ≡ Some s → Conforms s (begun_moments h text key)

none_some : (policy : Policy) (h : List Entry) (text : List ℕ) (p : Path) → path_named policy h text ≡ None → path_named policy h text ≡ Some p → ⊥
none_some policy h text p none some = let no : None ≡ Some p = sym none ∙ some in absurd cc

module _ (policy : Policy) (h : List Entry) (e : Entry) (legal : IsLegal policy h) (k : KeepsRates policy h) (follows : MayFollow policy h e) where
  still_none : (text : List ℕ) (key : ℕ) → path_named policy h text ≡ None → begun_moments (h ++ e ∷ []) text key ≡ []
  still_none text key none =
      begun_moments-more h e text key ∙ ap (λ xs. xs ++ begun_at text key h e) (k.unnamed text key none)
      ∙ ⊎_elim (λ nothing. nothing) (λ one. absurd (none_some policy h text one.path none one.named)) (adds policy h legal e.at e.who e.what text key follows)

  unnamed_before : (text : List ℕ) (o : Option Path) → path_named policy h text ≡ o → path_named policy (h ++ e ∷ []) text ≡ None → path_named policy h text ≡ None
  unnamed_before text None is none = is
  unnamed_before text (Some p) is none = absurd (none_some policy (h ++ e ∷ []) text p none (path_named-kept policy h e text p is))

  one_conforms : (text : List ℕ) (p : Path) (key : ℕ) (s : Throttle) → path_named policy h text ≡ Some p → message_rate_of_key (base_of policy p.site p.source) key ≡ Some s
      → AddsMoment policy h e text key → Conforms s (begun_moments (h ++ e ∷ []) text key)
  one_conforms text p key s is stands one =
      let same : one.path ≡ p = same_Some one.path p (sym one.named ∙ is) in
      let rate : (limits policy h e.at one.path).message_rate ≡ Some s =
      message_key_stands (base_of policy one.path.site one.path.source) _ key s one.keyed
      (subst (λ (q : Path). message_rate_of_key (base_of policy q.site q.source) key ≡ Some s) (sym same) stands) in
      subst (Conforms s) (sym (begun_moments-more h e text key ∙ ap (λ xs. begun_moments h text key ++ xs) one.moment))
      (subst (λ r. KeepsRate r (begun_moments h text key ++ e.at ∷ [])) rate one.rate)

  still_conforms : (text : List ℕ) (p : Path) (key : ℕ) (s : Throttle) → path_named policy (h ++ e ∷ []) text ≡ Some p
      → message_rate_of_key (base_of policy p.site p.source) key ≡ Some s → (o : Option Path) → path_named policy h text ≡ o
      → Conforms s (begun_moments (h ++ e ∷ []) text key)
  still_conforms text p key s now stands None none = none_conforms s (begun_moments (h ++ e ∷ []) text key) (still_none text key none)
  still_conforms text p key s now stands (Some q) was =
      let same : q ≡ p = same_Some q p (sym (path_named-kept policy h e text q was) ∙ now) in
      let is : path_named policy h text ≡ Some p = was ∙ ap Some same in
      ⊎_elim
      (λ nothing. subst (Conforms s) (sym (begun_moments-more h e text key ∙ ap (λ xs. begun_moments h text key ++ xs) nothing ∙ append-nil (begun_moments h text key))) (k.named text p is key s stands))
      (λ one. one_conforms text p key s is stands one)
      (adds policy h legal e.at e.who e.what text key follows)

  rates_then : KeepsRates policy (h ++ e ∷ [])
  rates_then = record {
    unnamed = λ text key none. still_none text key (unnamed_before text (path_named policy h text) refl none);
    named = λ text p now key s stands. still_conforms text p key s now stands (path_named policy h text) refl;
  }

none_yet : (policy : Policy) → KeepsRates policy []
none_yet policy = record { unnamed = λ text key none. refl; named = λ text p is. absurd cc }

-- attempts
pub attempts_conform : (policy : Policy) (h : List Entry) → IsLegal policy h → (text : List ℕ) (p : Path) → path_named policy h text ≡ Some p → (key : ℕ) (s : Throttle)
    → message_rate_of_key (base_of policy p.site p.source) key ≡ Some s → Conforms s (begun_moments h text key)
attempts_conform policy h legal =
    (IsLegal-along policy (KeepsRates policy) (none_yet policy) (λ h e before k follows. rates_then policy h e before k follows) h legal).named

-- what one entry adds to the openings of a text and a key
record AddsOpening (policy : Policy) (h : List Entry) (e : Entry) (text : List ℕ) (key : ℕ) : Type 0 where
  path : Path
  there : Contains (paths policy h) path
  has_text : text_of path ≡ text
  moment : opened_moments (e ∷ []) text key ≡ e.at ∷ []
  keyed : key ≡ (limits policy h e.at path).connection_key
  rate : KeepsRate (limits policy h e.at path).connection_rate (opened_moments h text key ++ e.at ∷ [])

adds_opened : (policy : Policy) (h : List Entry) (at who conn : ℕ) (of : List ℕ) (under : ℕ) (text : List ℕ) (key : ℕ) → clamped at ≡ at → AllowsOpening policy h at of under
    → (b : Bool) → (bytes_eq of text && eqb under key) ≡ b
    → (opened_moments (record { at = at; who = who; what = Opened conn of under } ∷ []) text key ≡ [])
    ⊎ AddsOpening policy h (record { at = at; who = who; what = Opened conn of under }) text key
adds_opened policy h at who conn of under text key moment allows false is =
    inl (ap (λ b. map (λ (c : Connection). clamped c.at) (cond b (record { number = conn; path = of; who = who; at = at; key = under } ∷ []) [])) is)
adds_opened policy h at who conn of under text key moment allows true is =
    let (passes, same) = and_parts (bytes_eq of text) (eqb under key) is in
    let it : under ≡ key = eqb-true under key same in
    let text_is : of ≡ text = (bytes_eq-Decides of text).0 passes in
    inr (record {
      path = allows.path;
      there = allows.is_path;
      has_text = sym allows.has_text ∙ text_is;
      moment = ap (λ b. map (λ (c : Connection). clamped c.at) (cond b (record { number = conn; path = of; who = who; at = at; key = under } ∷ []) [])) is
          ∙ ap (λ t. t ∷ []) moment;
      keyed = sym it ∙ allows.has_key;
      rate = subst (λ k. KeepsRate (limits policy h at allows.path).connection_rate (opened_moments h text k ++ at ∷ [])) it
          (subst (λ x. KeepsRate (limits policy h at allows.path).connection_rate (opened_moments h x under ++ at ∷ [])) text_is allows.rate);
    })

opens : (policy : Policy) (h : List Entry) → IsLegal policy h → (at who : ℕ) (e : Event) (text : List ℕ) (key : ℕ) → MayFollow policy h (record { at = at; who = who; what = e })
    → (opened_moments (record { at = at; who = who; what = e } ∷ []) text key ≡ []) ⊎ AddsOpening policy h (record { at = at; who = who; what = e }) text key
opens policy h legal at who (Opened conn of under) text key follows =
    adds_opened policy h at who conn of under text key (clamped_within at follows.proper.moment) (opening policy h at who conn of under legal follows.proper.moment follows.row)
    (bytes_eq of text && eqb under key) refl
opens policy h legal at who _ text key follows = inl refl

-- what has no name was never opened; where one path alone has a text, its openings keep its rates
record KeepsOpenings (policy : Policy) (h : List Entry) : Type 0 where
  unnamed : (text : List ℕ) (key : ℕ) → path_named policy h text ≡ None → opened_moments h text key ≡ []
  named : (text : List ℕ) (p : Path) → IsOnlyPath policy h text p → (key : ℕ) (s : Throttle)
      → connection_rate_of_key (base_of policy p.site p.source) key ≡ Some s → Conforms s (opened_moments h text key)

module _ (policy : Policy) (h : List Entry) (e : Entry) (legal : IsLegal policy h) (k : KeepsOpenings policy h) (follows : MayFollow policy h e) where
  still_unopened : (text : List ℕ) (key : ℕ) → path_named policy h text ≡ None → opened_moments (h ++ e ∷ []) text key ≡ []
  still_unopened text key none =
      opened_moments-more h e text key ∙ ap (λ xs. xs ++ opened_moments (e ∷ []) text key) (k.unnamed text key none)
      ∙ ⊎_elim
      (λ nothing. nothing)
      (λ one. absurd (find_none (λ p. bytes_eq (text_of p) text) (paths policy h) one.path none one.there ((bytes_eq-Decides (text_of one.path) text).1 one.has_text)))
      (opens policy h legal e.at e.who e.what text key follows)

  unopened_before : (text : List ℕ) (o : Option Path) → path_named policy h text ≡ o → path_named policy (h ++ e ∷ []) text ≡ None → path_named policy h text ≡ None
  unopened_before text None is none = is
  unopened_before text (Some p) is none = absurd (none_some policy (h ++ e ∷ []) text p none (path_named-kept policy h e text p is))

  opening_conforms : (text : List ℕ) (p : Path) (key : ℕ) (s : Throttle) → IsOnlyPath policy h text p
      → connection_rate_of_key (base_of policy p.site p.source) key ≡ Some s → AddsOpening policy h e text key → Conforms s (opened_moments (h ++ e ∷ []) text key)
  opening_conforms text p key s only stands one =
      let same : one.path ≡ p = only.1 one.path one.there one.has_text in
      let rate : (limits policy h e.at one.path).connection_rate ≡ Some s =
      connection_key_stands (base_of policy one.path.site one.path.source) _ key s one.keyed
      (subst (λ (q : Path). connection_rate_of_key (base_of policy q.site q.source) key ≡ Some s) (sym same) stands) in
      subst (Conforms s) (sym (opened_moments-more h e text key ∙ ap (λ xs. opened_moments h text key ++ xs) one.moment))
      (subst (λ r. KeepsRate r (opened_moments h text key ++ e.at ∷ [])) rate one.rate)

  openings_still_conform : (text : List ℕ) (p : Path) (key : ℕ) (s : Throttle) → IsOnlyPath policy (h ++ e ∷ []) text p
      → connection_rate_of_key (base_of policy p.site p.source) key ≡ Some s → (o : Option Path) → path_named policy h text ≡ o
      → Conforms s (opened_moments (h ++ e ∷ []) text key)
  openings_still_conform text p key s only stands None none = none_conforms s (opened_moments (h ++ e ∷ []) text key) (still_unopened text key none)
  openings_still_conform text p key s only stands (Some q) was =
      let same : q ≡ p = same_Some q p (sym (path_named-kept policy h e text q was) ∙ only.0) in
      let before : IsOnlyPath policy h text p = (was ∙ ap Some same, λ r there is. only.1 r (paths-kept policy h e r there) is) in
      ⊎_elim
      (λ nothing. subst (Conforms s) (sym (opened_moments-more h e text key ∙ ap (λ xs. opened_moments h text key ++ xs) nothing ∙ append-nil (opened_moments h text key))) (k.named text p before key s stands))
      (λ one. opening_conforms text p key s before stands one)
      (opens policy h legal e.at e.who e.what text key follows)

  openings_then : KeepsOpenings policy (h ++ e ∷ [])
  openings_then = record {
    unnamed = λ text key none. still_unopened text key (unopened_before text (path_named policy h text) refl none);
    named = λ text p only key s stands. openings_still_conform text p key s only stands (path_named policy h text) refl;
  }

none_opened : (policy : Policy) → KeepsOpenings policy []
none_opened policy = record { unnamed = λ text key none. refl; named = λ text p only. let is : path_named policy [] text ≡ Some p = only.0 in absurd cc }

-- openings
pub openings_conform : (policy : Policy) (h : List Entry) → IsLegal policy h → (text : List ℕ) (p : Path) → IsOnlyPath policy h text p → (key : ℕ) (s : Throttle)
    → connection_rate_of_key (base_of policy p.site p.source) key ≡ Some s → Conforms s (opened_moments h text key)
openings_conform policy h legal =
    (IsLegal-along policy (KeepsOpenings policy) (none_opened policy) (λ h e before k follows. openings_then policy h e before k follows) h legal).named
