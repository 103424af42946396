-- A path stands for its calls after each call too.
use Rattle.std.proofs.Common.{◌≡◌, ◌+◌, ◌≤◌, ◌^◌, ◌-◌, refl, sym, ap, subst, ◌∙◌, ℕ, min, List, [], ◌∷◌, ◌++◌, Bool, true, false, cond, not, ◌&&◌, ◌||◌, nat_eq, Option, Some, None, length, arith, append-nil, length-append}
use Rattle.std.specs.Prelude.{◌==◌}
use Rattle.std.specs.List.{count_by}
use Rattle.std.proofs.lemmas.Bool.{eqb-true, true≢false, or_parts, and_parts, not-true, cond-true, cond-false}
use Rattle.kumo_base.specs.Moment.{clamped}
use Rattle.throttle_spec.specs.Throttle.{Throttle}
use Rattle.throttle_spec.specs.Bucket.{BucketState}
use Rattle.path_lease.specs.declared.connection.Connection.{Connection}
use Rattle.path_lease.specs.Calls.{Call, opening, beginning, ending, closing, Start, openings, beginnings, moments_under, openings_under, beginnings_under, was_opened, was_closed, is_open, open_count, used, is_busy, idle_since, refusals}
use Rattle.policy_core.specs.declared.options.InForce.{InForce}
use Rattle.path_lease.specs.Leaves.{Rates, AgreesOn}
use Rattle.path_lease.specs.State.{PathState}
use Rattle.path_lease.specs.Standing.{kept_at, connection_of, IsCounted, StandsFor, are_distinct}
use Rattle.path_lease.specs.inside.Kept.{with_attempt, at_rest, refusals_with}
use Rattle.path_lease.proofs.ListLemmas.{or_false, any_more, count_more, distinct_more, one_less, has}
use Rattle.path_lease.proofs.CallLemmas.{from_parts, by_parts, closed_more, closed_same, busy_more, idle_more, refusals_more, openings_more, openings_same, beginnings_more, beginnings_same, open_among, open_alike, open_same, open_more, under_more}

-- the buckets of a table, where one more moment was taken under a key
pub counted_more : (rate : ℕ → Option Throttle) (os : List Start) (o : Start) (old new : ℕ → Option BucketState)
    → ((key : ℕ) → IsCounted (rate key) (moments_under key os) (old key))
    → IsCounted (rate o.key) (moments_under o.key os ++ clamped o.at ∷ []) (new o.key)
    → ((other : ℕ) → nat_eq o.key other ≡ false → new other ≡ old other)
    → (key : ℕ) → IsCounted (rate key) (moments_under key (os ++ o ∷ [])) (new key)
counted_more rate os o old new all here others key = by (nat_eq o.key key) refl where
  by : (b : Bool) → nat_eq o.key key ≡ b → IsCounted (rate key) (moments_under key (os ++ o ∷ [])) (new key)
  by true e =
      let same : moments_under key (os ++ o ∷ []) ≡ moments_under key os ++ clamped o.at ∷ [] =
      under_more os o key ∙ ap (λ b. moments_under key os ++ cond b (clamped o.at ∷ []) []) e in
      subst (λ ms. IsCounted (rate key) ms (new key)) (sym same)
      (subst (λ k. IsCounted (rate k) (moments_under k os ++ clamped o.at ∷ []) (new k)) (eqb-true o.key key e) here)
  by false e =
      let same : moments_under key (os ++ o ∷ []) ≡ moments_under key os =
      under_more os o key ∙ ap (λ b. moments_under key os ++ cond b (clamped o.at ∷ []) []) e ∙ append-nil (moments_under key os) in
      subst (λ ms. IsCounted (rate key) ms (new key)) (sym same)
      (subst (λ x. IsCounted (rate key) (moments_under key os) x) (sym (others key e)) (all key))

-- what is kept of a connection after each call
abbrev pub new_connection : ℕ → Connection
new_connection t = record { beginnings = 0; idle = t; busy = false }

abbrev pub made_of : ℕ → ℕ → Bool → Connection
made_of u i busy = record { beginnings = u; idle = i; busy = busy }

after_opening : (b o c : Bool) (u i : ℕ) (busy : Bool) (t : ℕ) → (b ≡ true → (c ≡ false) × (u ≡ 0) × (busy ≡ false))
    → from_parts (o || b) c u (cond b t i) busy ≡ cond b (Some (new_connection t)) (from_parts o c u i busy)
after_opening true o c u i busy t fresh =
    let h = fresh refl in
    ap (λ x. from_parts x c u t busy) (always o) ∙ ap (λ x. from_parts true x u t busy) h.0 ∙ ap (λ x. from_parts true false x t busy) h.1
    ∙ ap (λ x. from_parts true false 0 t x) h.2
  where
    always : (x : Bool) → (x || true) ≡ true
    always true = refl
    always false = refl
after_opening false o c u i busy t fresh = ap (λ x. from_parts x c u i busy) (or_false o)

after_beginning : (b o c : Bool) (u i : ℕ) (busy : Bool) (w : Connection) → (b ≡ true → from_parts o c u i busy ≡ Some w)
    → from_parts o c (u + cond b 1 0) i (cond b true busy) ≡ cond b (Some (with_attempt w)) (from_parts o c u i busy)
after_beginning true o c u i busy w was = by (o && not c) (was refl) where
  by : (x : Bool) → cond x (Some (made_of u i busy)) None ≡ Some w
      → cond x (Some (made_of (u + 1) i true)) None ≡ Some (with_attempt w)
  by true e = let same : made_of u i busy ≡ w = cc in ap (λ k. Some (with_attempt k)) same
  by false e = absurd cc
after_beginning false o c u i busy w was = ap (λ n. from_parts o c n i busy) (omega arith)

after_ending : (b o c : Bool) (u i : ℕ) (busy : Bool) (t : ℕ) (w : Connection) → (b ≡ true → from_parts o c u i busy ≡ Some w)
    → from_parts o c u (cond b t i) (cond b false busy) ≡ cond b (Some (at_rest t w)) (from_parts o c u i busy)
after_ending true o c u i busy t w was = by (o && not c) (was refl) where
  by : (x : Bool) → cond x (Some (made_of u i busy)) None ≡ Some w
      → cond x (Some (made_of u t false)) None ≡ Some (at_rest t w)
  by true e = let same : made_of u i busy ≡ w = cc in ap (λ k. Some (at_rest t k)) same
  by false e = absurd cc
after_ending false o c u i busy t w was = refl

after_closing : (b o c : Bool) (u i : ℕ) (busy : Bool) → from_parts o (c || b) u i busy ≡ cond b None (from_parts o c u i busy)
after_closing true true true u i busy = refl
after_closing true true false u i busy = refl
after_closing true false c u i busy = refl
after_closing false o c u i busy = ap (λ x. from_parts o x u i busy) (or_false c)

-- what is known of a connection that is open
pub open_parts : (calls : List Call) (n : ℕ) → is_open calls n ≡ true → (was_opened calls n ≡ true) × (was_closed calls n ≡ false)
open_parts calls n e =
    let parts = and_parts (was_opened calls n) (not (was_closed calls n)) e in (parts.0, not-true (was_closed calls n) parts.1)

differ : (a b : ℕ) (p : ℕ → Bool) → p a ≡ true → p b ≡ false → nat_eq a b ≡ false
differ a b p one other = by (nat_eq a b) refl where
  by : (t : Bool) → nat_eq a b ≡ t → t ≡ false
  by false e = refl
  by true e = absurd (true≢false (sym one ∙ ap p (eqb-true a b e) ∙ other))

pub opened_one : (p now : PathState) (rates : Rates) (calls : List Call) (t n k : ℕ) → StandsFor p rates calls → was_opened calls n ≡ false
    → ((q : ℕ) → kept_at now.connections q ≡ cond (nat_eq n q) (Some (new_connection t)) (kept_at p.connections q))
    → length now.connections ≡ length p.connections + 1
    → IsCounted (rates.connection k) (openings_under calls k ++ clamped t ∷ []) (kept_at now.opened k)
    → ((other : ℕ) → nat_eq k other ≡ false → kept_at now.opened other ≡ kept_at p.opened other)
    → now.begun ≡ p.begun → now.refusals ≡ p.refusals → StandsFor now rates (calls ++ opening t n k ∷ [])
opened_one p now rates calls t n k is unknown updates len counted others begun same =
    record {
      connections = λ q.
          updates q ∙ ap (cond (nat_eq n q) (Some (new_connection t))) (is.connections q)
          ∙ sym (after_opening (nat_eq n q) (was_opened calls q) (was_closed calls q) (used calls q) (idle_since calls q) (is_busy calls q) t (fresh q))
          ∙ sym (by_parts next q (was_opened calls q || nat_eq n q) (was_closed calls q) (used calls q) (cond (nat_eq n q) t (idle_since calls q)) (is_busy calls q)
          (opens q) (closed_same calls c q refl) (uses q) (idle_more calls c q) (busy_more calls c q));
      count = omega (arith, len, is.count, open_more calls c o refl (λ q. refl) (is.untouched n unknown).not_closed);
      opened = λ key. subst (λ os. IsCounted (rates.connection key) (moments_under key os) (kept_at now.opened key)) (sym starts)
          (counted_more rates.connection (openings calls) o (kept_at p.opened) (kept_at now.opened) is.opened counted others key);
      begun = λ key. subst (λ bs. IsCounted (rates.message key) (moments_under key bs) (kept_at now.begun key)) (sym (beginnings_same calls c refl))
          (subst (λ table. IsCounted (rates.message key) (beginnings_under calls key) (kept_at table key)) (sym begun) (is.begun key));
      refusals_kept = same ∙ is.refusals_kept ∙ ap (λ r. min r (2 ^ 32 - 1)) (sym (refusals_more calls c));
      refusals_within = omega (
        arith,
        is.refusals_within,
        refusals_more calls c,
        open_more calls c o refl (λ q. refl) (is.untouched n unknown).not_closed,
        ap length starts,
        length-append (openings calls) (o ∷ []),
      );
      distinct = ap are_distinct starts ∙ distinct_more (openings calls) o is.distinct unknown;
      untouched = λ q none.
          let apart = or_parts (was_opened calls q) (nat_eq n q) (sym (opens q) ∙ none) in
          let before = is.untouched q apart.0 in
          record { not_closed = closed_same calls c q refl ∙ before.not_closed; not_used = uses q ∙ before.not_used; not_busy = busy_more calls c q ∙ before.not_busy };
    }
  where
    c : Call
    c = opening t n k

    next : List Call
    next = calls ++ c ∷ []

    o : Start
    o = record { at = t; conn = n; key = k }

    starts : openings next ≡ openings calls ++ o ∷ []
    starts = openings_more calls c o refl

    opens : (q : ℕ) → was_opened next q ≡ (was_opened calls q || nat_eq n q)
    opens q = ap (has q) starts ∙ any_more (λ x. x.conn == q) (openings calls) o

    uses : (q : ℕ) → used next q ≡ used calls q
    uses q = ap (count_by (λ b. b.conn == q)) (beginnings_same calls c refl)

    fresh : (q : ℕ) → nat_eq n q ≡ true → (was_closed calls q ≡ false) × (used calls q ≡ 0) × (is_busy calls q ≡ false)
    fresh q e =
        let at = is.untouched q (ap (was_opened calls) (sym (eqb-true n q e)) ∙ unknown) in (at.not_closed, at.not_used, at.not_busy)

-- nothing is kept of a connection that was not opened
pub not_kept : (calls : List Call) (n : ℕ) → was_opened calls n ≡ false → connection_of calls n ≡ None
not_kept calls n unknown = ap (λ x. from_parts x (was_closed calls n) (used calls n) (idle_since calls n) (is_busy calls n)) unknown

-- a connection that is kept was opened
opened_since : (calls : List Call) (n : ℕ) (w : Connection) → connection_of calls n ≡ Some w → was_opened calls n ≡ true
opened_since calls n w e = by (was_opened calls n) refl where
  by : (b : Bool) → was_opened calls n ≡ b → b ≡ true
  by true is = refl
  by false is = let none = sym (not_kept calls n is) ∙ e in absurd cc

-- a call on a connection that was opened leaves others untouched
apart_from : (calls : List Call) (n q : ℕ) → was_opened calls n ≡ true → was_opened calls q ≡ false → nat_eq n q ≡ false
apart_from calls n q here none = differ n q (was_opened calls) here none

pub begun_one : (p now : PathState) (rates : Rates) (calls : List Call) (t n k : ℕ) (w : Connection) → StandsFor p rates calls
    → kept_at p.connections n ≡ Some w
    → ((q : ℕ) → kept_at now.connections q ≡ cond (nat_eq n q) (Some (with_attempt w)) (kept_at p.connections q))
    → length now.connections ≡ length p.connections
    → IsCounted (rates.message k) (beginnings_under calls k ++ clamped t ∷ []) (kept_at now.begun k)
    → ((other : ℕ) → nat_eq k other ≡ false → kept_at now.begun other ≡ kept_at p.begun other)
    → now.opened ≡ p.opened → now.refusals ≡ p.refusals → StandsFor now rates (calls ++ beginning t n k ∷ [])
begun_one p now rates calls t n k w is here updates len counted others opened same =
    record {
      connections = λ q.
          updates q ∙ ap (cond (nat_eq n q) (Some (with_attempt w))) (is.connections q)
          ∙ sym (after_beginning (nat_eq n q) (was_opened calls q) (was_closed calls q) (used calls q) (idle_since calls q) (is_busy calls q) w (at q))
          ∙ sym (by_parts next q (was_opened calls q) (was_closed calls q) (used calls q + cond (nat_eq n q) 1 0) (idle_since calls q) (cond (nat_eq n q) true (is_busy calls q))
          (opens q) (closed_same calls c q refl) (uses q) (idle_more calls c q) (busy_more calls c q));
      count = len ∙ is.count ∙ sym (open_same calls c refl (λ q. refl));
      opened = λ key. subst (λ os. IsCounted (rates.connection key) (moments_under key os) (kept_at now.opened key)) (sym starts)
          (subst (λ table. IsCounted (rates.connection key) (openings_under calls key) (kept_at table key)) (sym opened) (is.opened key));
      begun = λ key. subst (λ bs. IsCounted (rates.message key) (moments_under key bs) (kept_at now.begun key)) (sym (beginnings_more calls c o refl))
          (counted_more rates.message (beginnings calls) o (kept_at p.begun) (kept_at now.begun) is.begun counted others key);
      refusals_kept = same ∙ is.refusals_kept ∙ ap (λ r. min r (2 ^ 32 - 1)) (sym (refusals_more calls c));
      refusals_within = omega (arith, is.refusals_within, refusals_more calls c, open_same calls c refl (λ q. refl), ap length starts);
      distinct = ap are_distinct starts ∙ is.distinct;
      untouched = λ q none.
          let unknown = sym (opens q) ∙ none in
          let before = is.untouched q unknown in
          let other = apart_from calls n q known unknown in
          record {
            not_closed = closed_same calls c q refl ∙ before.not_closed;
            not_used = omega (arith, uses q, before.not_used, ap (λ b. cond {A = ℕ} b 1 0) other);
            not_busy = busy_more calls c q ∙ ap (λ b. cond b true (is_busy calls q)) other ∙ before.not_busy;
          };
    }
  where
    c : Call
    c = beginning t n k

    next : List Call
    next = calls ++ c ∷ []

    o : Start
    o = record { at = t; conn = n; key = k }

    starts : openings next ≡ openings calls
    starts = openings_same calls c refl

    opens : (q : ℕ) → was_opened next q ≡ was_opened calls q
    opens q = ap (has q) starts

    uses : (q : ℕ) → used next q ≡ used calls q + cond (nat_eq n q) 1 0
    uses q = ap (count_by (λ b. b.conn == q)) (beginnings_more calls c o refl) ∙ count_more (λ b. b.conn == q) (beginnings calls) o

    at : (q : ℕ) → nat_eq n q ≡ true → connection_of calls q ≡ Some w
    at q e = sym (is.connections q) ∙ ap (kept_at p.connections) (sym (eqb-true n q e)) ∙ here

    known : was_opened calls n ≡ true
    known = opened_since calls n w (sym (is.connections n) ∙ here)

pub ended_one : (p now : PathState) (rates : Rates) (calls : List Call) (t n : ℕ) (w : Connection) → StandsFor p rates calls
    → kept_at p.connections n ≡ Some w
    → ((q : ℕ) → kept_at now.connections q ≡ cond (nat_eq n q) (Some (at_rest t w)) (kept_at p.connections q))
    → length now.connections ≡ length p.connections
    → now.opened ≡ p.opened → now.begun ≡ p.begun → now.refusals ≡ p.refusals → StandsFor now rates (calls ++ ending t n ∷ [])
ended_one p now rates calls t n w is here updates len opened begun same =
    record {
      connections = λ q.
          updates q ∙ ap (cond (nat_eq n q) (Some (at_rest t w))) (is.connections q)
          ∙ sym (after_ending (nat_eq n q) (was_opened calls q) (was_closed calls q) (used calls q) (idle_since calls q) (is_busy calls q) t w (at q))
          ∙ sym (by_parts next q (was_opened calls q) (was_closed calls q) (used calls q) (cond (nat_eq n q) t (idle_since calls q)) (cond (nat_eq n q) false (is_busy calls q))
          (opens q) (closed_same calls c q refl) (uses q) (idle_more calls c q) (busy_more calls c q));
      count = len ∙ is.count ∙ sym (open_same calls c refl (λ q. refl));
      opened = λ key. subst (λ os. IsCounted (rates.connection key) (moments_under key os) (kept_at now.opened key)) (sym starts)
          (subst (λ table. IsCounted (rates.connection key) (openings_under calls key) (kept_at table key)) (sym opened) (is.opened key));
      begun = λ key. subst (λ bs. IsCounted (rates.message key) (moments_under key bs) (kept_at now.begun key)) (sym (beginnings_same calls c refl))
          (subst (λ table. IsCounted (rates.message key) (beginnings_under calls key) (kept_at table key)) (sym begun) (is.begun key));
      refusals_kept = same ∙ is.refusals_kept ∙ ap (λ r. min r (2 ^ 32 - 1)) (sym (refusals_more calls c));
      refusals_within = omega (arith, is.refusals_within, refusals_more calls c, open_same calls c refl (λ q. refl), ap length starts);
      distinct = ap are_distinct starts ∙ is.distinct;
      untouched = λ q none.
          let unknown = sym (opens q) ∙ none in
          let before = is.untouched q unknown in
          let other = apart_from calls n q known unknown in
          record {
            not_closed = closed_same calls c q refl ∙ before.not_closed;
            not_used = uses q ∙ before.not_used;
            not_busy = busy_more calls c q ∙ ap (λ b. cond b false (is_busy calls q)) other ∙ before.not_busy;
          };
    }
  where
    c : Call
    c = ending t n

    next : List Call
    next = calls ++ c ∷ []

    starts : openings next ≡ openings calls
    starts = openings_same calls c refl

    opens : (q : ℕ) → was_opened next q ≡ was_opened calls q
    opens q = ap (has q) starts

    uses : (q : ℕ) → used next q ≡ used calls q
    uses q = ap (count_by (λ b. b.conn == q)) (beginnings_same calls c refl)

    at : (q : ℕ) → nat_eq n q ≡ true → connection_of calls q ≡ Some w
    at q e = sym (is.connections q) ∙ ap (kept_at p.connections) (sym (eqb-true n q e)) ∙ here

    known : was_opened calls n ≡ true
    known = opened_since calls n w (sym (is.connections n) ∙ here)

pub closed_one : (p now : PathState) (rates : Rates) (calls : List Call) (n : ℕ) (refused : Bool) → StandsFor p rates calls → is_open calls n ≡ true
    → ((q : ℕ) → kept_at now.connections q ≡ cond (nat_eq n q) None (kept_at p.connections q))
    → length now.connections + 1 ≡ length p.connections
    → now.opened ≡ p.opened → now.begun ≡ p.begun → now.refusals ≡ refusals_with refused p.refusals → StandsFor now rates (calls ++ closing n refused ∷ [])
closed_one p now rates calls n refused is open_yet updates len opened begun same =
    record {
      connections = λ q.
          updates q ∙ ap (cond (nat_eq n q) None) (is.connections q)
          ∙ sym (after_closing (nat_eq n q) (was_opened calls q) (was_closed calls q) (used calls q) (idle_since calls q) (is_busy calls q))
          ∙ sym (by_parts next q (was_opened calls q) (was_closed calls q || nat_eq n q) (used calls q) (idle_since calls q) (is_busy calls q)
          (opens q) (closed_more calls c q) (uses q) (idle_more calls c q) (busy_more calls c q));
      count = omega (arith, len, is.count, fewer);
      opened = λ key. subst (λ os. IsCounted (rates.connection key) (moments_under key os) (kept_at now.opened key)) (sym starts)
          (subst (λ table. IsCounted (rates.connection key) (openings_under calls key) (kept_at table key)) (sym opened) (is.opened key));
      begun = λ key. subst (λ bs. IsCounted (rates.message key) (moments_under key bs) (kept_at now.begun key)) (sym (beginnings_same calls c refl))
          (subst (λ table. IsCounted (rates.message key) (beginnings_under calls key) (kept_at table key)) (sym begun) (is.begun key));
      refusals_kept = same ∙ kept_by refused;
      refusals_within = within_by refused;
      distinct = ap are_distinct starts ∙ is.distinct;
      untouched = λ q none.
          let unknown = sym (opens q) ∙ none in
          let before = is.untouched q unknown in
          let other = apart_from calls n q parts.0 unknown in
          record {
            not_closed = closed_more calls c q ∙ ap (λ b. was_closed calls q || b) other ∙ or_false (was_closed calls q) ∙ before.not_closed;
            not_used = uses q ∙ before.not_used;
            not_busy = busy_more calls c q ∙ before.not_busy;
          };
    }
  where
    c : Call
    c = closing n refused

    next : List Call
    next = calls ++ c ∷ []

    starts : openings next ≡ openings calls
    starts = openings_same calls c refl

    opens : (q : ℕ) → was_opened next q ≡ was_opened calls q
    opens q = ap (has q) starts

    uses : (q : ℕ) → used next q ≡ used calls q
    uses q = ap (count_by (λ b. b.conn == q)) (beginnings_same calls c refl)

    parts : (was_opened calls n ≡ true) × (was_closed calls n ≡ false)
    parts = open_parts calls n open_yet

    fewer : open_count next + 1 ≡ open_count calls
    fewer =
        ap (λ n. n + 1) (ap (open_among (was_closed next)) starts ∙ open_alike (was_closed next) (λ q. was_closed calls q || nat_eq n q) (closed_more calls c) (openings calls))
        ∙ one_less (was_closed calls) n (openings calls) is.distinct parts.0 parts.1

    kept_by : (b : Bool) → refusals_with b p.refusals ≡ min (refusals (calls ++ closing n b ∷ [])) (2 ^ 32 - 1)
    kept_by true = omega (arith, is.refusals_kept, refusals_more calls (closing n true))
    kept_by false = omega (arith, refusals_more calls (closing n false))

    within_by : (b : Bool) → refusals (calls ++ closing n b ∷ []) + open_count (calls ++ c ∷ []) ≤ length (openings (calls ++ c ∷ []))
    within_by true = omega (arith, is.refusals_within, refusals_more calls (closing n true), fewer, ap length starts)
    within_by false = omega (arith, is.refusals_within, refusals_more calls (closing n false), fewer, ap length starts)

-- what an idle or a working connection keeps
pub kept_of : (p : PathState) (rates : Rates) (calls : List Call) (n : ℕ) → StandsFor p rates calls → is_open calls n ≡ true
    → kept_at p.connections n ≡ Some (made_of (used calls n) (idle_since calls n) (is_busy calls n))
kept_of p rates calls n is open_yet =
    is.connections n ∙ cond-true (is_open calls n) (Some (made_of (used calls n) (idle_since calls n) (is_busy calls n))) None open_yet

-- a connection that is kept is open
pub open_by : (p : PathState) (rates : Rates) (calls : List Call) (n : ℕ) (w : Connection) → StandsFor p rates calls
    → kept_at p.connections n ≡ Some w → is_open calls n ≡ true
open_by p rates calls n w is there = by (is_open calls n) refl where
  by : (b : Bool) → is_open calls n ≡ b → b ≡ true
  by true e = refl
  by false e =
      let none = cond-false (is_open calls n) (Some (made_of (used calls n) (idle_since calls n) (is_busy calls n))) None e in
      let both = sym there ∙ is.connections n ∙ none in
      absurd cc

-- more room changes nothing else
pub unchanged : (p now : PathState) (rates : Rates) (calls : List Call) → StandsFor p rates calls → now.connections ≡ p.connections
    → now.opened ≡ p.opened → now.begun ≡ p.begun → now.refusals ≡ p.refusals → StandsFor now rates calls
unchanged p now rates calls is connections opened begun same =
    record {
      connections = λ q. ap (λ table. kept_at table q) connections ∙ is.connections q;
      count = ap length connections ∙ is.count;
      opened = λ key. subst (λ table. IsCounted (rates.connection key) (openings_under calls key) (kept_at table key)) (sym opened) (is.opened key);
      begun = λ key. subst (λ table. IsCounted (rates.message key) (beginnings_under calls key) (kept_at table key)) (sym begun) (is.begun key);
      refusals_kept = same ∙ is.refusals_kept;
      refusals_within = is.refusals_within;
      distinct = is.distinct;
      untouched = is.untouched;
    }

-- what is counted under the keys in force
pub opening_at : (p : PathState) (rates : Rates) (calls : List Call) (now : InForce) → StandsFor p rates calls → AgreesOn rates now
    → IsCounted now.connection_rate (openings_under calls now.connection_key) (kept_at p.opened now.connection_key)
opening_at p rates calls now is agrees =
    subst (λ r. IsCounted r (openings_under calls now.connection_key) (kept_at p.opened now.connection_key)) agrees.connection (is.opened now.connection_key)

pub beginning_at : (p : PathState) (rates : Rates) (calls : List Call) (now : InForce) → StandsFor p rates calls → AgreesOn rates now
    → IsCounted now.message_rate (beginnings_under calls now.message_key) (kept_at p.begun now.message_key)
beginning_at p rates calls now is agrees =
    subst (λ r. IsCounted r (beginnings_under calls now.message_key) (kept_at p.begun now.message_key)) agrees.message (is.begun now.message_key)

-- what is kept of a connection is what the calls say of it
pub as_called : (p : PathState) (rates : Rates) (calls : List Call) (n : ℕ) (w : Connection) → StandsFor p rates calls
    → kept_at p.connections n ≡ Some w → w ≡ made_of (used calls n) (idle_since calls n) (is_busy calls n)
as_called p rates calls n w is there =
    let both = sym there ∙ kept_of p rates calls n is (open_by p rates calls n w is there) in
    cc
