-- Making, splitting and joining passes keeps the rule, and what closing finds.
use Rattle.std.proofs.Common.{◌≡◌, ◌≢◌, ℕ, zero, suc, ◌+◌, ◌^◌, ◌<◌, ◌≤◌, eqb, List, [], ◌∷◌, ◌++◌, length, set, sym, refl, ap, ◌∙◌, subst, ⊎_elim, inl, inr, arith, Option, Some, None, Bool, true, false, true≢false, length-set, append-nil, Contains, lt_of_not-le, pos_of_ne-zero, cond, ltb, length-append, ltb-true, ltb-false, take, ◌-◌}
use Rattle.std.specs.Option.{IsSome, is_some}
use mathlib.Core.Option.{some, some-ne-none, some-injective}
use native.Mathlib.Decide.{ℕ_discrete, dec_le}
use lib.ListN.{get_elem?}
use Rattle.atomic_table.specs.Table.{State, Me, Splits, Joins, opening, Final, Seen}
use Rattle.atomic_table.proofs.Lists.{set_here, set_else, at_longer}
use Rattle.std.proofs.Math.Seq.{take-append_seam, take-append-add}
use Rattle.std.proofs.Math.Nat.{max-le}
use Rattle.std.proofs.lemmas.List.{set_comm, nil_from_length}
use Rattle.std.proofs.lemmas.Option.{none-some, same_Some}
use mathlib.Core.Logic.{dite}
use Rattle.turnstile.specs.Entries.{Begins, own_entries, Note, Shown}
use Rattle.turnstile.specs.Rule.{waits, waiting, Knows, IsSpent, IsSeated, Apart, IsIn, IsTaken, Kept}
use Rattle.turnstile.specs.Views.{newcomer, founder, with_number_given, fresh, joined, ended, AllMet, is_there, whose, View}
use Rattle.std.proofs.lemmas.List.Elements.{filter-append, Contains-append_cases}
use Rattle.turnstile.proofs.OneView.{at_below, waiting_set, by_view, no_news, own_front, only_one, split_first, in_first, in_rest, some_not_none, some_same, knows_seen, given_all, slot_set, apart_set, still_spent, seated_in, replaced_in_turn, retired}
use Rattle.turnstile.proofs.TurnMoves.{own_apart}

-- what holds of the old views and of the last holds of all
by_end : (P : ℕ → View → Type 0) (l : List View) (a : View) → P (length l) a → ((j : ℕ) (u : View) → get_elem? l j ≡ some u → P j u) → (j : ℕ) (u : View) → get_elem? (l ++ a ∷ []) j ≡ some u → P j u
by_end P [] a new old zero u e = subst (λ z. P 0 z) (some-injective a u e) new
by_end P [] a new old (suc j) u e = absurd (some-ne-none u (sym e))
by_end P (x ∷ xs) a new old zero u e = old 0 u e
by_end P (x ∷ xs) a new old (suc j) u e = by_end (λ k. P (suc k)) xs a new (λ k. old (suc k)) j u e

waiting_end : (vs : List View) (w : View) → waiting (vs ++ w ∷ []) ≡ waiting vs + waits w.ticket
waiting_end [] w = omega arith
waiting_end (x ∷ xs) w = let h = waiting_end xs w in omega arith

-- what stands between two histories with the same entries of a pass has no more of it
own_between : (w : ℕ) (a b c : List Note) → Begins a b → Begins b c → own_entries w c ≡ own_entries w a → own_entries w c ≡ own_entries w b
own_between w a b c x y e =
    let b_is : own_entries w b ≡ own_entries w a ++ own_entries w x.0 = ap (own_entries w) x.1 ∙ filter-append (λ n. eqb n.by w) a x.0 in
    let c_is : own_entries w c ≡ own_entries w b ++ own_entries w y.0 = ap (own_entries w) y.1 ∙ filter-append (λ n. eqb n.by w) b y.0 in
    let lb = ap length b_is in let lc = ap length c_is in let le = ap length e in
    let pb = length-append (own_entries w a) (own_entries w x.0) in let pc = length-append (own_entries w b) (own_entries w y.0) in
    let none_more : own_entries w y.0 ≡ [] = nil_from_length (own_entries w y.0) (omega arith) in c_is ∙ ap (λ z. own_entries w b ++ z) none_more ∙ append-nil (own_entries w b)

-- of two beginnings of one history the shorter begins the longer
fronts : (a b c : List Note) → Begins a c → Begins b c → length a ≤ length b → Begins a b
fronts a b c x y h = let n = length b - length a in let long : length b ≡ length a + n = omega arith in
    (take n x.0, sym (take-append_seam b y.0) ∙ ap (take (length b)) (sym y.1 ∙ x.1) ∙ ap (λ k. take k (a ++ x.0)) long ∙ take-append-add a x.0 n)

-- the longer of two beginnings is one, and begins with both
both_in : (a b c : List Note) → Begins a c → Begins b c → (t : Bool) → ltb (length a) (length b) ≡ t → Begins (cond t b a) c × Begins a (cond t b a) × Begins b (cond t b a)
both_in a b c x y true e = (y, fronts a b c x y (let h = ltb-true (length a) (length b) e in omega arith), ([], sym (append-nil b)))
both_in a b c x y false e = (x, ([], sym (append-nil a)), fronts b a c y x (ltb-false (length a) (length b) e))

own_same : (w : ℕ) (a b c : List Note) → Begins a b → Begins b c → own_entries w c ≡ own_entries w a → own_entries w b ≡ own_entries w a
own_same w a b c x y e = sym (own_between w a b c x y e) ∙ e

-- what two passes know is known to the one that met the other
both_know : (log : Shown) (v w : View) → Knows log v → Knows log w → Knows log (joined v w)
both_know log v w kv kw =
    let a = v.seen.entries in
    let b = w.seen.entries in
    let seen = (joined v w).seen.entries in
    let h = both_in a b log.entries kv.begins kw.begins (ltb (length a) (length b)) refl in record {
      stem = kv.stem;
      begins = h.0;
      counts = (max-le kv.counts.0 kw.counts.0, max-le kv.counts.1 kw.counts.1, max-le kv.counts.2 kw.counts.2, max-le kv.counts.3 kw.counts.3);
      own = λ m c. ⊎_elim (λ n. own_between m a seen log.entries h.1 h.0 (kv.own m n)) (λ n. own_between m b seen log.entries h.2 h.0 (kw.own m n)) (Contains-append_cases (whose v) (whose w) m c);
      left = (h.1, λ m c. own_same m a seen log.entries h.1 h.0 (kv.own m c));
      right = (h.2, λ m c. own_same m b seen log.entries h.2 h.0 (kw.own m c));
    }

-- the seat of a pass that has just come
newly : (next turn : ℕ) (log : Shown) (views : List View) (i : ℕ) (x : Shown) (g : ℕ) → Knows log (record (newcomer i x) { given = g }) → IsSeated next turn log views i (record (newcomer i x) { given = g })
newly next turn log views i x g k = record { number = λ _. refl; ticket = λ t e. absurd (none-some t e); took = λ y e. absurd (none-some y e); knows = λ _. k; spent = λ _. (refl, refl); met = λ w _ c. absurd (omega (arith, c.1)) }

-- a table that has just been made keeps the rule, and the first pass has its value
pub opens : {T : Type 0} (shown : T → Shown) (x : T) → own_entries 0 (shown x).entries ≡ (shown x).entries → Kept shown (opening (1 ∷ 0 ∷ []) (None ∷ []) (founder (shown x)))
opens shown x by = record {
  next = 1;
  turn = 0;
  log = shown x;
  words = refl;
  out = refl;
  few = omega arith;
  slot = inr (0, first, refl, refl, refl);
  each = only (IsSeated 1 0 (shown x) (first ∷ [])) record { number = λ _. refl; ticket = λ t e. let same = same_Some 0 t e in (omega arith, omega arith); took = λ y e. (refl, sym (same_Some (shown x) y e)); knows = λ _. knows_seen (shown x) (0 ∷ []); spent = λ e. absurd (true≢false (sym e)); met = λ w _ c. absurd (omega (arith, c.1)) };
  apart = λ i j t v w a b tv tw. only (λ i _. i ≡ 0) refl i v a ∙ sym (only (λ j _. j ≡ 0) refl j w b);
  unborn = λ w high. ap (own_entries w) (sym by) ∙ own_apart 0 w (shown x).entries (λ e. let h = high in omega arith);
  head = (first, refl, refl, refl);
}
  where
    first : View
    first = founder (shown x)

    only : (P : ℕ → View → Type 0) → P 0 first → (i : ℕ) (v : View) → get_elem? (first ∷ []) i ≡ some v → P i v
    only P h = by_end P [] first h (λ j u e. absurd (some-ne-none u (sym e)))

module _ {T : Type 0} (shown : T → Shown) where
  pub splits : (id : ℕ) (v : View) → v.number ≡ 0 → v.spent ≡ false → v.given + 1 < 2 ^ 32 → Splits (Kept shown) id v (with_number_given v) (fresh v)
  splits id v first live room s r at = record {
    next = r.next;
    turn = r.turn;
    log = r.log;
    words = r.words;
    out = let count = waiting_set s.views id v (with_number_given v) at in let waits_all = waiting_end now (fresh v) in let was = r.out in omega arith;
    few = let l = long in let n = given_is in omega arith;
    slot = ⊎_elim
        (λ (h : IsIn shown r.log s.homes now). inl (h.0, h.1, h.2, by_end (λ _ u. u.took ≡ None) now (fresh v) refl h.3))
        (λ (h : IsTaken shown r.log s.homes now). inr (h.0, h.1, at_longer now (fresh v ∷ []) h.0 h.1 h.2, h.3, h.4))
        (slot_set shown s r id v at (with_number_given v) refl (λ x e. refl));
    each = by_end (IsSeated r.next r.turn r.log all) now (fresh v)
        (subst (λ i. IsSeated r.next r.turn r.log all i (fresh v)) (given_is ∙ sym size) (newly r.next r.turn r.log all v.given v.seen 0 born))
        (by_view (IsSeated r.next r.turn r.log all) s.views id (with_number_given v)
        record { number = me.number; ticket = me.ticket; took = me.took; knows = me.knows; spent = me.spent; met = λ w alive c. later w (me.met w alive c) }
        (λ j u _ here. seated_in s.views all later (r.each j u here)));
    apart = λ i j t x y atx aty tx ty. by_end (λ i x. x.ticket ≡ Some t → i ≡ j) now (fresh v) (λ e. absurd (none-some t e))
        (λ i x herex tx. by_end (λ j y. y.ticket ≡ Some t → i ≡ j) now (fresh v) (λ e. absurd (none-some t e)) (λ j y herey ty. apart_now i j t x y herex herey tx ty) j y aty ty)
        i x atx tx;
    unborn = λ w high. r.unborn w (let l = long in omega arith);
    head = (with_number_given v, at_longer now (fresh v ∷ []) 0 (with_number_given v) (ap (get_elem? now) (sym id_is) ∙ set_here s.views id (with_number_given v) (at_below s.views id v at)), (let l = long in let n = given_is in omega arith), live);
  }
    where
      now : List View
      now = set s.views id (with_number_given v)

      all : List View
      all = now ++ fresh v ∷ []

      me : IsSeated r.next r.turn r.log s.views id v
      me = r.each id v at

      id_is : id ≡ 0
      id_is = sym (me.number live) ∙ first

      given_is : v.given ≡ length s.views
      given_is = given_all shown s r id v at id_is

      size : length now ≡ length s.views
      size = length-set s.views id (with_number_given v)

      long : length all ≡ length s.views + 1
      long = length-append now (fresh v ∷ []) ∙ ap (λ n. n + 1) size

      later : (m : ℕ) → IsSpent s.views m → IsSpent all m
      later m x = let y = still_spent shown s r id v at live (with_number_given v) m x in (y.0, at_longer now (fresh v ∷ []) m y.0 y.1, y.2)

      apart_now : Apart now
      apart_now = apart_set shown s r id v at (with_number_given v) (λ j t u ne here e mine. ne (r.apart j id t u v here at e mine))

      born : Knows r.log (fresh v)
      born = let k = me.knows live in record {
        stem = k.stem;
        begins = k.begins;
        counts = k.counts;
        own = λ w c. let is = only_one v.given w c in let n = given_is in let none_yet = r.unborn w (omega arith) in none_yet ∙ sym (own_front w v.seen.entries r.log.entries k.begins none_yet);
        left = no_news v.seen;
        right = no_news v.seen;
      }

  -- what closing finds in the slot
  pub found : (id : ℕ) (m : Me (Option T) View) (v : View) (words : List ℕ) (slots : List (Option T)) (slot : Option T) → m ≡ (v, []) → Final (Seen (Kept shown) id m.0) words slots
      → v.number ≡ 0 → v.spent ≡ false → v.took ≡ None → AllMet v → get_elem? slots 0 ≡ some slot
      → IsSome slot × ((x : T) → slot ≡ Some x → Knows (shown x) v × ((w : ℕ) → ¬ Contains (whose v) w → own_entries w (shown x).entries ≡ []))
  found id m v words slots slot is f first live free met there = ⊎_elim
      (λ (h : IsIn shown r.log s.homes s.views).
      let has = some-injective slot (Some h.0) (sym there ∙ f.4 0 (Some h.0) (ap (λ hs. get_elem? hs 0) h.1)) in (
        ap is_some has,
        λ x is. let same = ap shown (some_same x h.0 slot is has) ∙ h.2 in (
          subst (λ z. Knows z v) (sym same) ((r.each id v at).knows live),
          λ w un. ap (λ (z : Shown). own_entries w z.entries) same ∙ r.unborn w (dite (dec_le (length s.views) w) (λ d. d) (λ d. absurd (un (all_known w (lt_of_not-le d))))),
        ),
      ))
      (λ (h : IsTaken shown r.log s.homes s.views). absurd (nobody_has h.0 h.1 h.2 h.3 (ℕ_discrete h.0 id)))
      r.slot
    where
      s : State (Option T) View
      s = f.0

      r : Kept shown s
      r = f.1.0

      at : get_elem? s.views id ≡ some v
      at = f.1.1 ∙ ap (λ m. some m.0) is

      id_is : id ≡ 0
      id_is = sym ((r.each id v at).number live) ∙ first

      given_is : v.given ≡ length s.views
      given_is = given_all shown s r id v at id_is

      all_known : (w : ℕ) → w < length s.views → Contains (whose v) w
      all_known w low = dite (ℕ_discrete w 0) (λ e. in_first v.number v.met w (e ∙ sym first)) (λ ne. in_rest v.number v.met w (met w (pos_of_ne-zero ne) (let n = given_is in omega arith)))

      nobody_has : (i : ℕ) (u : View) → get_elem? s.views i ≡ some u → u.took ≡ Some r.log → Dec (i ≡ id) → ⊥
      nobody_has i u here took (yes e) = some_not_none r.log u.took (ap (λ (z : View). z.took) (some-injective u v (sym here ∙ ap (get_elem? s.views) e ∙ at)) ∙ free) took
      nobody_has i u here took (no ne) =
          let n = given_is in
          let low = at_below s.views i u here in
          let x = (r.each id v at).met i live (met i (pos_of_ne-zero (λ z. ne (z ∙ sym id_is))) (omega arith)) in
          let gone = ap (λ (z : View). z.spent) (some-injective u x.0 (sym here ∙ x.1)) ∙ x.2 in
          some_not_none r.log u.took ((r.each i u here).spent gone).1 took

  -- first the other ends, and then the one knows what it knew
  pub joins : (id other : ℕ) (v w : View) → v.spent ≡ false → w.spent ≡ false → w.ticket ≡ None → w.took ≡ None → w.number ≢ 0 → Joins (Kept shown) id v other w (joined v w) ended
  joins id other v w live alive idle free not_first s r at ne there = subst (λ vs. Kept shown record { words = s.words; homes = s.homes; views = vs }) (set_comm s.views other id ended (joined v w) ne)
      (replaced_in_turn shown between k id v at_now live (joined v w) s.words s.homes k.next k.words
      (omega arith)
      (let count = waiting_set between.views id v (joined v w) at_now in let was = k.out in omega arith)
      (slot_set shown between k id v at_now (joined v w) refl (λ x e. refl))
      record { number = me.number; ticket = me.ticket; took = me.took; knows = λ _. both_know k.log v w (me.knows live) w_knows; spent = me.spent; met = both_met }
      (λ _. (refl, live))
      (λ t e. inl e))
    where
      between : State (Option T) View
      between = record { words = s.words; homes = s.homes; views = set s.views other ended }

      was_there : get_elem? s.views other ≡ some w
      was_there = sym (set_else s.views id other (joined v w) ne) ∙ there

      at_now : get_elem? between.views id ≡ some v
      at_now = set_else s.views other id ended (λ e. ne (sym e)) ∙ at

      other_is : w.number ≡ other
      other_is = (r.each other w was_there).number alive

      gone : (k : Kept shown between) × (k.log ≡ r.log)
      gone = retired shown s r other w was_there alive idle free (λ e. not_first (other_is ∙ e))

      k : Kept shown between
      k = gone.0

      me : IsSeated k.next k.turn k.log between.views id v
      me = k.each id v at_now

      w_knows : Knows k.log w
      w_knows = subst (λ l. Knows l w) (sym gone.1) ((r.each other w was_there).knows alive)

      both_met : (m : ℕ) → v.spent ≡ false → Contains (v.met ++ w.number ∷ w.met) m → IsSpent between.views m
      both_met m _ c = ⊎_elim (λ (h : Contains v.met m). me.met m live h)
          (λ (h : Contains (w.number ∷ w.met) m). ⊎_elim
          (λ (e : m ≡ w.number). (ended, ap (get_elem? between.views) (e ∙ other_is) ∙ set_here s.views other ended (at_below s.views other w was_there), refl))
          (λ (h : Contains w.met m). still_spent shown s r other w was_there alive ended m ((r.each other w was_there).met m alive h))
          (split_first w.number w.met m h))
          (Contains-append_cases v.met (w.number ∷ w.met) m c)

pub no_ticket : {A B : Type 0} (t : Option A) (k : Option B) → is_there t ≡ is_there k → k ≡ None → t ≡ None
no_ticket None k e none_there = refl
no_ticket (Some t) k e none_there = absurd (true≢false (e ∙ ap is_there none_there))
