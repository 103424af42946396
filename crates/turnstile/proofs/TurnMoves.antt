-- Each step keeps the rule.
use Rattle.std.proofs.Common.{◌≡◌, ◌≢◌, ℕ, suc, ◌+◌, ◌%◌, ◌^◌, eqb, List, [], ◌∷◌, ◌++◌, set, sym, refl, ap, ◌∙◌, subst, ⊎_elim, inl, inr, arith, Option, Some, None, Bool, true, false, true≢false, append-nil, ne_eqb, cond, slice_set, slice_index}
use Rattle.std.proofs.lemmas.Option.{none-some, same_Some}
use mathlib.Core.Logic.{dite}
use mathlib.Core.Option.{none, some, some-ne-none, some-injective}
use mathlib.Core.Option as maybe
use native.Mathlib.Decide.{ℕ_discrete}
use lib.ListN.{get_elem?}
use Rattle.atomic_table.specs.Table.{State, Me, Act, keeps, takes, gives, stepped, homes_after, carried_after, Valid, Allows}
use Rattle.atomic_table.proofs.Lists.{set_here, set_again, one_turn}
use Rattle.turnstile.specs.Entries.{own_entries, Follows, Note, Shown}
use Rattle.turnstile.specs.Rule.{waits, Knows, emptied, IsIn, IsTaken, Kept}
use Rattle.turnstile.specs.inside.Steps.{drew, looked, passed, laid, fetched, recalled, Waits}
use Rattle.turnstile.specs.Views.{left_with, whose, View}
use Rattle.std.proofs.lemmas.Bool.Decides.{eqb_tells}
use Rattle.std.proofs.Math.Nat.{suc-mod}
use Rattle.std.proofs.lemmas.List.Elements.{filter-append}
use Rattle.turnstile.proofs.OneView.{at_below, waiting_set, waiting_few, by_view, some_not_none, some_same, Grows, knows_seen, given_all, holder, slot_set, replaced, replaced_in_turn, own_front}

pub none_else : {A : Type 0} (o : Option A) → ((x : A) → ¬ (o ≡ Some x)) → o ≡ None
none_else None h = refl
none_else (Some x) h = absurd (h x refl)

pub next_mod : (n : ℕ) → (n % 2 ^ 64 + 1) % 2 ^ 64 ≡ (n + 1) % 2 ^ 64
next_mod n = let e : n + 1 ≡ suc n = omega arith in let f : n % 2 ^ 64 + 1 ≡ suc (n % 2 ^ 64) = omega arith in ap (λ k. k % 2 ^ 64) f ∙ sym (suc-mod n (2 ^ 64)) ∙ ap (λ k. k % 2 ^ 64) (sym e)

pub own_apart : (i w : ℕ) (es : List Note) → w ≢ i → own_entries w (own_entries i es) ≡ []
own_apart i w [] ne = refl
own_apart i w (e ∷ es) ne = let h = own_apart i w es ne in ⊎_elim
    (λ (t : (eqb e.by i ≡ true) × (e.by ≡ i)). ap (λ b. own_entries w (cond b (e ∷ own_entries i es) (own_entries i es))) t.0 ∙ ap (λ b. cond b (e ∷ own_entries w (own_entries i es)) (own_entries w (own_entries i es))) (ne_eqb e.by w (λ same. ne (sym same ∙ t.1))) ∙ h)
    (λ (f : (eqb e.by i ≡ false) × (e.by ≢ i)). ap (λ b. own_entries w (cond b (e ∷ own_entries i es) (own_entries i es))) f.0 ∙ h)
    (eqb_tells e.by i)

abbrev first_or : {T : Type 0} → Option T → List (ℕ × Option T) → Option T
first_or d [] = d
first_or d (c ∷ cs) = c.1

-- the value may go home with what the turn added
pub grown : (w id : ℕ) (x y : Shown) → w ≡ id → Follows w x y → Grows id x y
grown w id x y number f = record {
  stem = f.stem;
  seen = (f.more, f.entries);
  counts = f.counts;
  others = λ u ne. ap (own_entries u) f.entries ∙ filter-append (λ e. eqb e.by u) x.entries f.more
      ∙ ap (λ z. own_entries u x.entries ++ z) (ap (own_entries u) (sym f.by) ∙ own_apart w u f.more (λ e. ne (e ∙ number)))
      ∙ append-nil (own_entries u x.entries);
}

-- what a step asks, of a seat of which more is known
pub at_seat : {T : Type 0} (shown : T → Shown) {slots id i : ℕ} (f : ℕ → ℕ) {m n : Me (Option T) View} (told : Me (Option T) View → ℕ → Me (Option T) View → Type 0) → m ≡ n
    → Allows (Kept shown) slots id n i f (told n) → Allows (Kept shown) slots id m i f (told m)
at_seat shown {slots} {id} {i} f told is = subst (λ m. Allows (Kept shown) slots id m i f (told m)) (sym is)

module _ {T : Type 0} (shown : T → Shown) (slots id : ℕ) (me : Me (Option T) View) where
  pub draws : me.0.ticket ≡ None → me.0.took ≡ None → me.0.spent ≡ false → Allows (Kept shown) slots id me 0 (λ n. (n + 1) % 2 ^ 64) (drew shown me)
  draws idle free live s r deep at bound =
      let w : View = record me.0 { ticket = Some r.next } in
      let seat = r.each id me.0 at in
      let count = waiting_set s.views id me.0 w at in
      let was = ap waits idle in
      let all = r.out in (
        w,
        keeps,
        tt,
        replaced_in_turn shown s r id me.0 at live w (slice_set s.words 0 ((slice_index s.words 0 + 1) % 2 ^ 64)) s.homes (r.next + 1)
            (ap (λ ws. slice_set ws 0 ((slice_index ws 0 + 1) % 2 ^ 64)) r.words ∙ ap (λ n. n ∷ r.turn % 2 ^ 64 ∷ []) (next_mod r.next))
            (omega arith)
            (omega arith)
            (slot_set shown s r id me.0 at w refl (λ x e. refl))
            record { number = seat.number; ticket = λ t e. let same = same_Some r.next t e in (omega arith, omega arith); took = λ x e. absurd (some_not_none x me.0.took free e); knows = seat.knows; spent = λ e. absurd (true≢false (sym e ∙ live)); met = seat.met }
            (λ _. (refl, live))
            (λ t e. let same = same_Some r.next t e in inr (omega arith)),
        (r.next, ap (λ ws. slice_index ws 0) r.words, refl),
      )

  kept_as : (s : State (Option T) View) (r : Kept shown s) → get_elem? s.views id ≡ some me.0
      → Kept shown record { words = slice_set s.words 1 (slice_index s.words 1); homes = s.homes; views = set s.views id me.0 }
  kept_as s r at = subst (λ (p : List ℕ × List View). Kept shown record { words = p.0; homes = s.homes; views = p.1 })
      (λ k. ((r.words ∙ sym (ap (λ ws. slice_set ws 1 (slice_index ws 1)) r.words)) k, sym (set_again s.views id me.0 at) k)) r

  pub recalls : Allows (Kept shown) slots id me 1 (λ n. n) (recalled shown me)
  recalls s r deep at bound = (
    me.0,
    keeps,
    tt,
    kept_as s r at,
    (
      refl,
      λ live. let k = (r.each id me.0 at).knows live in (
        k.left,
        k.right,
        λ first.
            let given = given_all shown s r id me.0 at (sym ((r.each id me.0 at).number live) ∙ first) in
            own_front me.0.given me.0.seen.entries r.log.entries k.begins (r.unborn me.0.given (omega (arith, given))),
      ),
    ),
  )

  -- a step of the pass whose turn it is, which changes no log
  holds_on : (s : State (Option T) View) (r : Kept shown s) → get_elem? s.views id ≡ some me.0 → me.0.spent ≡ false → (x : Shown) → me.0.took ≡ Some x → (b : Bool)
      → (homes : List (maybe.Option (Option T))) → homes ≡ emptied b ∷ []
      → Kept shown record { words = slice_set s.words 1 (slice_index s.words 1); homes = homes; views = set s.views id record me.0 { away = b } }
  holds_on s r at live x took b homes is =
      let w : View = record me.0 { away = b } in
      let seat = r.each id me.0 at in
      let count = waiting_set s.views id me.0 w at in
      let all = r.out in
      replaced_in_turn shown s r id me.0 at live w (slice_set s.words 1 (slice_index s.words 1)) homes r.next
      (ap (λ ws. slice_set ws 1 (slice_index ws 1)) r.words)
      (omega arith)
      (omega arith)
      (inr (id, w, set_here s.views id w (at_below s.views id me.0 at), took ∙ ap Some (seat.took x took).1, is))
      record { number = seat.number; ticket = seat.ticket; took = seat.took; knows = seat.knows; spent = seat.spent; met = seat.met }
      (λ _. (refl, live))
      (λ t e. inl e)

  pub lays : me.0.spent ≡ false → (x : Shown) → me.0.took ≡ Some x → me.0.away ≡ true → me.1 ≡ (0, None) ∷ [] → Allows (Kept shown) slots id me 1 (λ n. n) (laid shown me)
  lays live x took away carried s r deep at bound =
      let homes : s.homes ≡ none ∷ [] = holder shown s r id me.0 at x took ∙ ap (λ b. emptied b ∷ []) away in
      let put : homes_after s.homes me.1 gives ≡ some None ∷ [] = ap (λ c. homes_after s.homes c gives) carried ∙ ap (λ hs. slice_set hs 0 (some None)) homes in (
        record me.0 { away = false },
        gives,
        tt,
        holds_on s r at live x took false (homes_after s.homes me.1 gives) put,
        ap (λ c. (record me.0 { away = false }, carried_after c gives)) carried,
      )

  pub fetches : me.0.spent ≡ false → (x : Shown) → me.0.took ≡ Some x → me.0.away ≡ false → me.1 ≡ [] → Allows (Kept shown) slots id me 1 (λ n. n) (fetched shown me)
  fetches live x took away carried s r deep at bound =
      let homes : s.homes ≡ some None ∷ [] = holder shown s r id me.0 at x took ∙ ap (λ b. emptied b ∷ []) away in (
        record me.0 { away = true },
        takes 0 None,
        ap (λ hs. get_elem? hs 0) homes,
        holds_on s r at live x took true (slice_set s.homes 0 none) (ap (λ hs. slice_set hs 0 none) homes),
        ap (λ c. (record me.0 { away = true }, (0, None) ∷ c)) carried,
      )

  -- the served pass finds the value at home
  pub looks : me.0.spent ≡ false → (t : ℕ) → me.0.ticket ≡ Some t → me.0.took ≡ None → me.1 ≡ [] → Allows (Kept shown) slots id me 1 (λ n. n) (looked shown me)
  looks live t ticket free carried s r deep at bound = dite (ℕ_discrete (slice_index s.words 1) (t % 2 ^ 64)) (λ e. served e) (λ ne. waits_on ne)
    where
      Out : Type 0
      Out = (w : View) × (a : Act (Option T)) × Valid s.homes me.1 a × Kept shown (stepped s 1 (slice_index s.words 1) id me.1 w a) × looked shown me (slice_index s.words 1) (w, carried_after me.1 a)

      found : slice_index s.words 1 ≡ r.turn % 2 ^ 64
      found = ap (λ ws. slice_index ws 1) r.words

      waits_on : slice_index s.words 1 ≢ t % 2 ^ 64 → Out
      waits_on ne = (me.0, keeps, tt, kept_as s r at, λ t' ticket' _ _ _. (λ e. absurd (ne (e ∙ ap (λ k. k % 2 ^ 64) (some_same t' t me.0.ticket ticket' ticket))), λ _. refl))

      turn_is : slice_index s.words 1 ≡ t % 2 ^ 64 → r.turn ≡ t
      turn_is e = let h = (r.each id me.0 at).ticket t ticket in let few = r.few in let most = waiting_few s.views in let out = r.out in one_turn r.turn t (2 ^ 64) h.0 (omega arith) (sym found ∙ e)

      taken : (y : T) → s.homes ≡ some (Some y) ∷ [] → shown y ≡ r.log → r.turn ≡ t → Out
      taken y homes is same =
          let w : View = record me.0 { took = Some (shown y); away = true } in
          let seat = r.each id me.0 at in
          let count = waiting_set s.views id me.0 w at in
          let all = r.out in (
            w,
            takes 0 (Some y),
            ap (λ hs. get_elem? hs 0) homes,
            replaced_in_turn shown s r id me.0 at live w (slice_set s.words 1 (slice_index s.words 1)) (slice_set s.homes 0 none) r.next
                (ap (λ ws. slice_set ws 1 (slice_index ws 1)) r.words)
                (omega arith)
                (omega arith)
                (inr (id, w, set_here s.views id w (at_below s.views id me.0 at), ap Some is, ap (λ hs. slice_set hs 0 none) homes))
                record { number = seat.number; ticket = seat.ticket; took = λ x e. (ticket ∙ ap Some (sym same), sym (same_Some (shown y) x e) ∙ is); knows = seat.knows; spent = λ e. absurd (true≢false (sym e ∙ live)); met = seat.met }
                (λ _. (refl, live))
                (λ t e. inl e),
            λ t' ticket' _ _ _. (
              λ _. (y, ap (λ c. (w, (0, Some y) ∷ c)) carried, subst (λ z. Knows z me.0) (sym is) (seat.knows live)),
              λ ne. absurd (ne (found ∙ ap (λ k. k % 2 ^ 64) (same ∙ some_same t t' me.0.ticket ticket ticket'))),
            ),
          )

      served : slice_index s.words 1 ≡ t % 2 ^ 64 → Out
      served e = let same = turn_is e in ⊎_elim
          (λ (h : IsIn shown r.log s.homes s.views). taken h.0 h.1 h.2 same)
          (λ (h : IsTaken shown r.log s.homes s.views).
          let i_is : h.0 ≡ id = r.apart h.0 id r.turn h.1 me.0 h.2 at ((r.each h.0 h.1 h.2).took r.log h.3).0 (ticket ∙ ap Some (sym same)) in
          absurd (some_not_none r.log me.0.took free (ap (λ (z : View). z.took) (some-injective me.0 h.1 (sym at ∙ ap (get_elem? s.views) (sym i_is) ∙ h.2)) ∙ h.3)))
          r.slot

  -- the value goes home with what the turn added, and the next ticket is served
  pub passes : me.0.spent ≡ false → (x : Shown) → me.0.took ≡ Some x → me.0.away ≡ true → (y : T) → me.1 ≡ (0, Some y) ∷ [] → Follows me.0.number x (shown y) → Allows (Kept shown) slots id me 1 (λ n. (n + 1) % 2 ^ 64) (passed shown me)
  passes live x took away y carried follows s r deep at bound =
      let w : View = left_with (shown y) me.0 in
      let seat = r.each id me.0 at in
      let mine = seat.took x took in
      let homes : s.homes ≡ none ∷ [] = holder shown s r id me.0 at x took ∙ ap (λ b. emptied b ∷ []) away in
      let count = waiting_set s.views id me.0 w at in
      let was = ap waits mine.0 in
      let all = r.out in
      let alone : (j : ℕ) (u : View) → j ≢ id → get_elem? s.views j ≡ some u → ¬ (u.ticket ≡ Some r.turn) = λ j u ne here e. ne (r.apart j id r.turn u me.0 here at e mine.0) in
      let none_took : (j : ℕ) (u : View) → j ≢ id → get_elem? s.views j ≡ some u → (x : Shown) → ¬ (u.took ≡ Some x) = λ j u ne here x e. alone j u ne here ((r.each j u here).took x e).0 in (
        w,
        gives,
        tt,
        replaced shown s r id me.0 at live w (slice_set s.words 1 ((slice_index s.words 1 + 1) % 2 ^ 64)) (homes_after s.homes me.1 gives) r.next (r.turn + 1) (shown y)
            (ap (λ ws. slice_set ws 1 ((slice_index ws 1 + 1) % 2 ^ 64)) r.words ∙ ap (λ n. r.next % 2 ^ 64 ∷ n ∷ []) (next_mod r.turn))
            (omega arith)
            (inl (
              y,
              ap (λ c. homes_after s.homes c gives) carried ∙ ap (λ hs. slice_set hs 0 (some (Some y))) homes,
              refl,
              by_view (λ _ u. u.took ≡ None) s.views id w refl (λ j u ne here. none_else u.took (none_took j u ne here)),
            ))
            (subst (λ z. Grows id z (shown y)) mine.1 (grown me.0.number id x (shown y) (seat.number live) follows))
            record { number = seat.number; ticket = λ t e. absurd (none-some t e); took = λ x e. absurd (none-some x e); knows = λ _. knows_seen (shown y) (whose me.0); spent = λ e. absurd (true≢false (sym e ∙ live)); met = seat.met }
            (λ _. (refl, live))
            (λ j u ne here. (
              λ t e. let h = (r.each j u here).ticket t e in let no_turn : t ≢ r.turn = λ same. alone j u ne here (e ∙ ap Some same) in (omega arith, h.1, λ own. none-some t own),
              λ x e. absurd (none_took j u ne here x e),
            )),
        λ y' carried'. ap (λ c. (w, carried_after c gives)) carried ∙ ap (λ z. (left_with (shown z) me.0, [])) (same_Some y y' (ap (first_or None) (sym carried ∙ carried'))),
      )

-- where the ticket was not served, the look changed nothing
pub missed : {T : Type 0} (shown : T → Shown) {found ticket : ℕ} {me me' : Me (Option T) View} → Waits ticket me → looked shown me found me' → found ≢ ticket → me' ≡ me
missed shown w told ne = (told w.0 w.1 w.3 w.4 w.5).1 (λ e. ne (e ∙ sym w.2))

pub carried_first : {T : Type 0} (y : T) (z : Option T) (l m : List (ℕ × Option T)) → l ≡ (0, Some y) ∷ [] → l ≡ (0, z) ∷ m → z ≡ Some y
carried_first y z l m a b = ap (first_or None) (sym b ∙ a)
