-- A step that changes one view keeps the rule, where it keeps these facts.
use Rattle.std.proofs.Common.{◌≡◌, ◌≢◌, ◌⊎◌, inl, inr, ℕ, zero, suc, ◌+◌, ◌%◌, ◌^◌, ◌<◌, ◌≤◌, List, [], ◌∷◌, ◌++◌, length, set, sym, refl, ap, ◌∙◌, subst, ⊎_elim, arith, Option, Some, None, false, true≢false, length-set, eqb, append_assoc, append-nil, Contains, le_trans}
use Rattle.std.proofs.lemmas.List.Elements.{filter-append, Contains-append_cases}
use Rattle.std.proofs.lemmas.Option.{none-some, same_Some}
use Rattle.std.proofs.lemmas.List.{length-append, nil_from_length}
use mathlib.Core.Logic.{dite}
use mathlib.Core.Option.{none, some, some-ne-none, some-injective}
use mathlib.Core.Option as maybe
use native.Mathlib.Decide.{ℕ_discrete}
use lib.ListN.{get_elem?}
use Rattle.atomic_table.specs.Table.{State}
use Rattle.atomic_table.proofs.Lists.{at_set, set_here, set_else}
use Rattle.turnstile.specs.Entries.{Begins, AtMost, own_entries, Note, Shown}
use Rattle.turnstile.specs.Rule.{waits, waiting, IsKnown, Knows, IsSpent, IsSeated, Apart, emptied, IsIn, IsTaken, Slot, Kept}
use Rattle.turnstile.specs.Views.{IsTold, untold, whose, ended, View}

pub at_below : {A : Type 0} (l : List A) (i : ℕ) (a : A) → get_elem? l i ≡ some a → i < length l
at_below [] i a e = absurd (some-ne-none a (sym e))
at_below (x ∷ xs) zero a e = omega arith
at_below (x ∷ xs) (suc i) a e = let h = at_below xs i a e in omega arith

-- a table of two words has the first and the second
pub has_words : {n : ℕ} → n ≡ 2 → (0 < n) × (1 < n)
has_words two = subst (λ k. (0 < k) × (1 < k)) (sym two) (omega arith, omega arith)

begins_on : (a b c : List Note) → Begins a b → Begins b c → Begins a c
begins_on a b c x y = (x.0 ++ y.0, y.1 ∙ ap (λ z. z ++ y.0) x.1 ∙ append_assoc a x.0 y.0)

pub waiting_set : (vs : List View) (i : ℕ) (v w : View) → get_elem? vs i ≡ some v → waiting (set vs i w) + waits v.ticket ≡ waiting vs + waits w.ticket
waiting_set [] i v w e = absurd (some-ne-none v (sym e))
waiting_set (x ∷ xs) zero v w e = let h : waits x.ticket ≡ waits v.ticket = ap (λ (z : View). waits z.ticket) (some-injective x v e) in omega arith
waiting_set (x ∷ xs) (suc i) v w e = let h = waiting_set xs i v w e in omega arith

waits_one : (t : Option ℕ) → waits t ≤ 1
waits_one None = omega arith
waits_one (Some t) = omega arith

pub waiting_few : (vs : List View) → waiting vs ≤ length vs
waiting_few [] = omega arith
waiting_few (x ∷ xs) = let h = waiting_few xs in let o = waits_one x.ticket in omega arith

pub by_view : (P : ℕ → View → Type 0) (vs : List View) (id : ℕ) (w : View) → P id w → ((j : ℕ) (u : View) → j ≢ id → get_elem? vs j ≡ some u → P j u) → (j : ℕ) (u : View) → get_elem? (set vs id w) j ≡ some u → P j u
by_view P vs id w mine others j u e = ⊎_elim (λ (t : (j ≡ id) × (w ≡ u)). subst (λ (x : ℕ × View). P x.0 x.1) (λ i. (sym t.0 i, t.1 i)) mine) (λ (t : (j ≢ id) × (get_elem? vs j ≡ some u)). others j u t.0 t.1) (at_set vs id j w u e)

pub own_front : (w : ℕ) (a b : List Note) → Begins a b → own_entries w b ≡ [] → own_entries w a ≡ []
own_front w a b x e =
    let is = ap length (sym (filter-append (λ n. eqb n.by w) a x.0) ∙ ap (own_entries w) (sym x.1) ∙ e) in
    let long = length-append (own_entries w a) (own_entries w x.0) in nil_from_length (own_entries w a) (omega arith)

pub only_one : (x w : ℕ) → Contains (x ∷ []) w → w ≡ x
only_one x w (zero, low, e) = sym e
only_one x w (suc k, low, e) = absurd (omega (arith, low))

pub split_first : (x : ℕ) (xs : List ℕ) (w : ℕ) → Contains (x ∷ xs) w → (w ≡ x) ⊎ Contains xs w
split_first x xs w c = ⊎_elim (λ h. inl (only_one x w h)) (λ h. inr h) (Contains-append_cases (x ∷ []) xs w c)

pub in_first : (x : ℕ) (xs : List ℕ) (w : ℕ) → w ≡ x → Contains (x ∷ xs) w
in_first x xs w e = (0, omega arith, sym e)

pub in_rest : (x : ℕ) (xs : List ℕ) (w : ℕ) → Contains xs w → Contains (x ∷ xs) w
in_rest x xs w (k, low, e) = (suc k, omega (arith, low), e)

pub some_not_none : {A : Type 0} (x : A) (o : Option A) → o ≡ None → ¬ (o ≡ Some x)
some_not_none x o n e = none-some x (sym n ∙ e)

pub some_same : {A : Type 0} (x y : A) (o : Option A) → o ≡ Some x → o ≡ Some y → x ≡ y
some_same x y o a b = same_Some x y (sym a ∙ b)

-- the log went on, by entries of the pass id alone
pub record Grows (id : ℕ) (log log' : Shown) : Type 0 where
  pub stem : log'.stem ≡ log.stem
  pub seen : Begins log.entries log'.entries
  pub counts : AtMost log.counts log'.counts
  pub others : (w : ℕ) → w ≢ id → own_entries w log'.entries ≡ own_entries w log.entries

same_log : (id : ℕ) (log : Shown) → Grows id log log
same_log id log = record { stem = refl; seen = ([], sym (append-nil log.entries)); counts = (omega arith, omega arith, omega arith, omega arith); others = λ w n. refl }

pub no_news : (x : Shown) → IsTold untold x
no_news x = ((x.entries, refl), λ w c. absurd (omega (arith, c.1)))

-- a pass knows what it has just seen
pub knows_seen : (x : Shown) (numbers : List ℕ) → IsKnown x numbers x untold untold
knows_seen x numbers = record { stem = refl; begins = ([], sym (append-nil x.entries)); counts = (omega arith, omega arith, omega arith, omega arith); own = λ w c. refl; left = no_news x; right = no_news x }

knows_on : (id : ℕ) (log log' : Shown) (u : View) → Grows id log log' → Knows log u → ((w : ℕ) → Contains (whose u) w → w ≢ id) → Knows log' u
knows_on id log log' u g k free = record {
  stem = k.stem ∙ sym g.stem;
  begins = begins_on _ _ _ k.begins g.seen;
  counts = (le_trans k.counts.0 g.counts.0, le_trans k.counts.1 g.counts.1, le_trans k.counts.2 g.counts.2, le_trans k.counts.3 g.counts.3);
  own = λ w c. g.others w (free w c) ∙ k.own w c;
  left = k.left;
  right = k.right;
}

-- a seat among other views, where who was spent still is
pub seated_in : {next turn : ℕ} {log : Shown} (views views' : List View) {i : ℕ} {v : View} → ((m : ℕ) → IsSpent views m → IsSpent views' m)
    → IsSeated next turn log views i v → IsSeated next turn log views' i v
seated_in views views' later h = record { number = h.number; ticket = h.ticket; took = h.took; knows = h.knows; spent = h.spent; met = λ m alive c. later m (h.met m alive c) }

module _ {T : Type 0} (shown : T → Shown) (s : State (Option T) View) (r : Kept shown s) (id : ℕ) (v : View) (at : get_elem? s.views id ≡ some v) where
  -- pass 0 knows how many there are
  pub given_all : id ≡ 0 → v.given ≡ length s.views
  given_all e = ap (λ (z : View). z.given) (some-injective v r.head.0 (sym at ∙ ap (get_elem? s.views) e ∙ r.head.1)) ∙ r.head.2

  -- the pass that took the value has it, and no other
  pub holder : (x : Shown) → v.took ≡ Some x → s.homes ≡ emptied v.away ∷ []
  holder x took = ⊎_elim
      (λ (h : IsIn shown r.log s.homes s.views). absurd (some_not_none x v.took (h.3 id v at) took))
      (λ (h : IsTaken shown r.log s.homes s.views).
      let is = r.apart h.0 id r.turn h.1 v h.2 at ((r.each h.0 h.1 h.2).took r.log h.3).0 ((r.each id v at).took x took).0 in
      h.4 ∙ ap (λ (z : View). emptied z.away ∷ []) (some-injective h.1 v (sym h.2 ∙ ap (get_elem? s.views) is ∙ at)))
      r.slot

  -- the view changes, and what it has of the value does not
  pub slot_set : (w : View) → w.took ≡ v.took → ((x : Shown) → v.took ≡ Some x → w.away ≡ v.away) → Slot shown r.log s.homes (set s.views id w)
  slot_set w same away = ⊎_elim
      (λ (h : IsIn shown r.log s.homes s.views). inl (h.0, h.1, h.2, by_view (λ _ u. u.took ≡ None) s.views id w (same ∙ h.3 id v at) (λ j u _ here. h.3 j u here)))
      (λ (h : IsTaken shown r.log s.homes s.views). inr (dite (ℕ_discrete h.0 id)
      (λ e. let is : h.1 ≡ v = some-injective h.1 v (sym h.2 ∙ ap (get_elem? s.views) e ∙ at) in let took = ap (λ (z : View). z.took) (sym is) ∙ h.3 in
      (id, w, set_here s.views id w (at_below s.views id v at), same ∙ took, h.4 ∙ ap (λ b. emptied b ∷ []) (ap (λ (z : View). z.away) is ∙ sym (away r.log took))))
      (λ ne. (h.0, h.1, set_else s.views id h.0 w ne ∙ h.2, h.3, h.4))))
      r.slot

  -- no other has a ticket of the new view
  pub apart_set : (w : View) → ((j t : ℕ) (u : View) → j ≢ id → get_elem? s.views j ≡ some u → u.ticket ≡ Some t → ¬ (w.ticket ≡ Some t)) → Apart (set s.views id w)
  apart_set w differ i j t x y atx aty tx ty = by_view (λ i x. x.ticket ≡ Some t → i ≡ j) s.views id w
      (λ mine. by_view (λ j y. y.ticket ≡ Some t → id ≡ j) s.views id w (λ _. refl) (λ j y ne here theirs. absurd (differ j t y ne here theirs mine)) j y aty ty)
      (λ i x ne here theirs. by_view (λ j y. y.ticket ≡ Some t → i ≡ j) s.views id w (λ mine. absurd (differ i t x ne here theirs mine)) (λ j y _ there tj. r.apart i j t x y here there theirs tj) j y aty ty)
      i x atx tx

  module _ (live : v.spent ≡ false) where
    not_spent : (m : ℕ) → IsSpent s.views m → m ≢ id
    not_spent m x e = true≢false (sym x.2 ∙ ap (λ (z : View). z.spent) (some-injective x.0 v (sym x.1 ∙ ap (get_elem? s.views) e ∙ at)) ∙ live)

    pub still_spent : (w : View) (m : ℕ) → IsSpent s.views m → IsSpent (set s.views id w) m
    still_spent w m x = (x.0, set_else s.views id m w (not_spent m x) ∙ x.1, x.2)

    -- no other pass knows the entries of this one whole
    others_know : (j : ℕ) (u : View) → get_elem? s.views j ≡ some u → j ≢ id → u.spent ≡ false → (w : ℕ) → Contains (whose u) w → w ≢ id
    others_know j u here ne alive w c = ⊎_elim
        (λ (h : w ≡ u.number) (e : w ≡ id). ne (sym ((r.each j u here).number alive) ∙ sym h ∙ e))
        (λ (h : Contains u.met w). not_spent w ((r.each j u here).met w alive h))
        (split_first u.number u.met w c)

    pub replaced : (w : View) (words : List ℕ) (homes : List (maybe.Option (Option T))) (next turn : ℕ) (log : Shown)
        → words ≡ next % 2 ^ 64 ∷ turn % 2 ^ 64 ∷ []
        → next ≡ turn + waiting (set s.views id w)
        → Slot shown log homes (set s.views id w)
        → Grows id r.log log
        → IsSeated next turn log s.views id w
        → (id ≡ 0 → (w.given ≡ v.given) × (w.spent ≡ false))
        → ((j : ℕ) (u : View) → j ≢ id → get_elem? s.views j ≡ some u
        → ((t : ℕ) → u.ticket ≡ Some t → (turn ≤ t) × (t < next) × ¬ (w.ticket ≡ Some t)) × ((x : Shown) → u.took ≡ Some x → (u.ticket ≡ Some turn) × (x ≡ log)))
        → Kept shown record { words = words; homes = homes; views = set s.views id w }
    replaced w words homes next turn log written out slot grows mine first others =
        let inside = at_below s.views id v at in
        let long = length-set s.views id w in record {
          next = next;
          turn = turn;
          log = log;
          words = written;
          out = out;
          few = subst (λ n. n < 2 ^ 32) (sym long) r.few;
          slot = slot;
          each = by_view (IsSeated next turn log (set s.views id w)) s.views id w
              (seated_in s.views (set s.views id w) (still_spent w) mine)
              (λ j u ne here. let was = r.each j u here in let other = others j u ne here in record {
                number = was.number;
                ticket = λ t e. let h = other.0 t e in (h.0, h.1);
                took = other.1;
                knows = λ alive. knows_on id r.log log u grows (was.knows alive) (others_know j u here ne alive);
                spent = was.spent;
                met = λ m alive c. still_spent w m (was.met m alive c);
              });
          apart = apart_set w (λ j t u ne here e. ((others j u ne here).0 t e).2);
          unborn = λ n high. let far = subst (λ m. m ≤ n) long high in grows.others n (λ e. omega arith) ∙ r.unborn n far;
          head = dite (ℕ_discrete id 0)
              (λ e. (w, ap (get_elem? (set s.views id w)) (sym e) ∙ set_here s.views id w inside, (first e).0 ∙ given_all e ∙ sym long, (first e).1))
              (λ ne. (r.head.0, set_else s.views id 0 w (λ e. ne (sym e)) ∙ r.head.1, r.head.2 ∙ sym long, r.head.3));
        }

    -- a step that passes no turn
    pub replaced_in_turn : (w : View) (words : List ℕ) (homes : List (maybe.Option (Option T))) (next : ℕ)
        → words ≡ next % 2 ^ 64 ∷ r.turn % 2 ^ 64 ∷ []
        → r.next ≤ next
        → next ≡ r.turn + waiting (set s.views id w)
        → Slot shown r.log homes (set s.views id w)
        → IsSeated next r.turn r.log s.views id w
        → (id ≡ 0 → (w.given ≡ v.given) × (w.spent ≡ false))
        → ((t : ℕ) → w.ticket ≡ Some t → (v.ticket ≡ Some t) ⊎ (r.next ≤ t))
        → Kept shown record { words = words; homes = homes; views = set s.views id w }
    unfolding replaced
    replaced_in_turn w words homes next written more out slot mine first ticket = replaced w words homes next r.turn r.log written out slot (same_log id r.log) mine first
        (λ j u ne here. let was = r.each j u here in (
          λ t e. let h = was.ticket t e in (h.0, omega arith, λ own. ⊎_elim (λ (same : v.ticket ≡ Some t). ne (r.apart j id t u v here at e same)) (λ (late : r.next ≤ t). omega arith) (ticket t own)),
          was.took,
        ))

    -- a pass that is met ends, and the history is the same
    pub retired : v.ticket ≡ None → v.took ≡ None → id ≢ 0 → (k : Kept shown record { words = s.words; homes = s.homes; views = set s.views id ended }) × (k.log ≡ r.log)
    unfolding replaced replaced_in_turn
    retired idle free later = (
      replaced_in_turn ended s.words s.homes r.next r.words
          (omega arith)
          (let count = waiting_set s.views id v ended at in let none_waits = ap waits idle in let was = r.out in omega arith)
          (slot_set ended (sym free) (λ x e. absurd (some_not_none x v.took free e)))
          record { number = λ e. absurd (true≢false e); ticket = λ t e. absurd (none-some t e); took = λ y e. absurd (none-some y e); knows = λ e. absurd (true≢false e); spent = λ e. (refl, refl); met = λ m e c. absurd (true≢false e) }
          (λ e. absurd (later e))
          (λ t e. absurd (none-some t e)),
      refl,
    )
