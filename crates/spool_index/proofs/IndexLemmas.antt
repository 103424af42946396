-- An index that is right stays right by each change.
use Rattle.std.proofs.Common.{◌≡◌, ◌<◌, ◌+◌, ℕ, zero, suc, List, [], ◌∷◌, ◌++◌, Bool, true, false, ◌||◌, cond, nat_eq, Option, Some, None, length, length-append, get_or, set, is_some, refl, sym, ap, ◌∙◌, arith, inl, inr, not, sum_by, get_or-set_same, get_or-set_other}
use Rattle.std.proofs.lemmas.Bool.{eqb-true, eq-eqb, ne_eqb, cases_eq, cond-true, cond-false, true≢false, not-true, and_parts}
use Rattle.std.proofs.Math.Seq.{get_or-append_seam}
use Rattle.std.proofs.Math.ListN.{get_or-append}
use Rattle.indexmap.specs.IndexMap.{IndexMap, get, index_map_len}
use Rattle.spool_index.specs.declared.place.Place.{Place}
use Rattle.spool_index.specs.Places.{has, find, without, with_delay, delayed, are_distinct}
use Rattle.spool_index.specs.Slots.{kept, slots_laid_out, Knows, Numbers, IsIndex}
use Rattle.spool_index.proofs.PlaceLemmas.{has-append, has-find, find_between, without_between, delay_between, has_without, has_instead, distinct_instead, distinct_parts, distinct_push, sum_between, has_laid_out, distinct_laid_out, length_laid_out}
use Rattle.spool_index.proofs.KeptLemmas.{kept-append, before, behind, kept_at, kept_blank, kept_set, within_at, has_at, stands, kept_laid_out, stood}

-- the slot of this number holds the id
abbrev pub Holds : ℕ → ℕ → List (Option Place) → Type 0
Holds id k slots = (p : Place) × (get_or slots k None ≡ Some p) × (p.id ≡ id)

-- two slots that hold one id are one
pub apart : (slots : List (Option Place)) (j k : ℕ) (p q : Place) → are_distinct (kept slots) ≡ true
    → get_or slots j None ≡ Some p → get_or slots k None ≡ Some q → p.id ≡ q.id → j ≡ k
apart [] j k p q distinct at_j at_k same = absurd cc
apart (None ∷ xs) zero k p q distinct at_j at_k same = absurd cc
apart (None ∷ xs) (suc j) zero p q distinct at_j at_k same = absurd cc
apart (None ∷ xs) (suc j) (suc k) p q distinct at_j at_k same = ap suc (apart xs j k p q distinct at_j at_k same)
apart (Some x ∷ xs) zero zero p q distinct at_j at_k same = refl
apart (Some x ∷ xs) zero (suc k) p q distinct at_j at_k same =
    let none = not-true (has x.id (kept xs)) (and_parts (not (has x.id (kept xs))) (are_distinct (kept xs)) distinct).0 in
    let here : x ≡ p = cc in
    absurd (true≢false (sym (has_at xs k q at_k) ∙ ap (λ i. has i (kept xs)) (sym same ∙ ap (λ y. y.id) (sym here)) ∙ none))
apart (Some x ∷ xs) (suc j) zero p q distinct at_j at_k same =
    let none = not-true (has x.id (kept xs)) (and_parts (not (has x.id (kept xs))) (are_distinct (kept xs)) distinct).0 in
    let here : x ≡ q = cc in
    absurd (true≢false (sym (has_at xs j p at_j) ∙ ap (λ i. has i (kept xs)) (same ∙ ap (λ y. y.id) (sym here)) ∙ none))
apart (Some x ∷ xs) (suc j) (suc k) p q distinct at_j at_k same =
    ap suc (apart xs j k p q (and_parts (not (has x.id (kept xs))) (are_distinct (kept xs)) distinct).1 at_j at_k same)

settled_knows : (t : Bool) (o : Option ℕ) (b : Bool) → is_some o ≡ b → is_some (cond t None o) ≡ cond t false b
settled_knows true o b e = refl
settled_knows false o b e = e

pushed_knows : (t : Bool) (k : ℕ) (o : Option ℕ) (b : Bool) → is_some o ≡ b → is_some (cond t (Some k) o) ≡ (b || (t || false))
pushed_knows true k o true e = refl
pushed_knows true k o false e = refl
pushed_knows false k o true e = e
pushed_knows false k o false e = e

known_again : (t : Bool) (k : ℕ) (o : Option ℕ) (b : Bool) → is_some o ≡ b → (t ≡ true → b ≡ true) → is_some (cond t (Some k) o) ≡ b
known_again true k o b e there = sym (there refl)
known_again false k o b e there = e

none_from : (o : Option Place) → is_some o ≡ false → o ≡ None
none_from None e = refl
none_from (Some p) e = absurd cc

none_blank : (slots : List (Option Place)) (j k : ℕ) (q : Place) → j ≡ k → k < length slots → get_or (set slots k None) j None ≡ Some q → ⊥
none_blank slots j k q same within at =
    let blank = get_or-set_same slots k None None within in
    let moved : get_or (set slots k None) j None ≡ None = ap (λ n. get_or (set slots k None) n None) same ∙ blank in
    cc

-- the messages about a slot: other ids, and each once
abbrev Cut : List (Option Place) → ℕ → Place → Type 0
Cut slots k p = (has p.id (before slots k) ≡ false) × (has p.id (behind slots k) ≡ false) × (are_distinct (before slots k ++ behind slots k) ≡ true)

pub cut : (slots : List (Option Place)) (k : ℕ) (p : Place) → are_distinct (kept slots) ≡ true → get_or slots k None ≡ Some p → Cut slots k p
cut slots k p distinct here =
    distinct_parts (before slots k) p (behind slots k) (ap are_distinct (sym (kept_at slots k p here)) ∙ distinct)

-- what the three calls find or leave
pub find_held : (slots : List (Option Place)) (id k : ℕ) (p : Place) → are_distinct (kept slots) ≡ true → get_or slots k None ≡ Some p → p.id ≡ id
    → find id (kept slots) ≡ Some p
find_held slots id k p distinct here is =
    let parts = cut slots k p distinct here in
    ap (find id) (kept_at slots k p here)
    ∙ find_between id (before slots k) p (behind slots k) (ap (λ i. has i (before slots k)) (sym is) ∙ parts.0) is

pub settle_held : (slots : List (Option Place)) (id k : ℕ) (p : Place) → are_distinct (kept slots) ≡ true → get_or slots k None ≡ Some p → p.id ≡ id
    → kept (set slots k None) ≡ without id (kept slots)
settle_held slots id k p distinct here is =
    let parts = cut slots k p distinct here in
    kept_blank slots k (within_at slots k p here)
    ∙ sym (without_between id (before slots k) p (behind slots k) (ap (λ i. has i (before slots k)) (sym is) ∙ parts.0) is)
    ∙ ap (without id) (sym (kept_at slots k p here))

pub delay_held : (slots : List (Option Place)) (id failures due k : ℕ) (p : Place) → are_distinct (kept slots) ≡ true → get_or slots k None ≡ Some p → p.id ≡ id
    → kept (set slots k (Some (delayed failures due p))) ≡ with_delay id failures due (kept slots)
delay_held slots id failures due k p distinct here is =
    let parts = cut slots k p distinct here in
    kept_set slots k (delayed failures due p) (within_at slots k p here)
    ∙ sym (delay_between id failures due (before slots k) p (behind slots k) (ap (λ i. has i (before slots k)) (sym is) ∙ parts.0) is)
    ∙ ap (with_delay id failures due) (sym (kept_at slots k p here))

-- a sum over the messages, at a slot that is blanked or written
pub sum_blank : (f : Place → ℕ) (slots : List (Option Place)) (k : ℕ) (p : Place) → get_or slots k None ≡ Some p
    → sum_by f (kept slots) ≡ f p + sum_by f (kept (set slots k None))
sum_blank f slots k p here =
    ap (sum_by f) (kept_at slots k p here) ∙ sum_between f (before slots k) p (behind slots k)
    ∙ ap (λ l. f p + sum_by f l) (sym (kept_blank slots k (within_at slots k p here)))

pub sum_written : (f : Place → ℕ) (slots : List (Option Place)) (k : ℕ) (p q : Place) → get_or slots k None ≡ Some p
    → f q + sum_by f (kept slots) ≡ f p + sum_by f (kept (set slots k (Some q)))
sum_written f slots k p q here =
    let old = ap (sum_by f) (kept_at slots k p here) ∙ sum_between f (before slots k) p (behind slots k) in
    let new = ap (sum_by f) (kept_set slots k q (within_at slots k p here)) ∙ sum_between f (before slots k) q (behind slots k) in
    omega (arith, old, new)

pub length_blank : (slots : List (Option Place)) (k : ℕ) (p : Place) → get_or slots k None ≡ Some p
    → length (kept slots) ≡ suc (length (kept (set slots k None)))
length_blank slots k p here =
    let old = ap length (kept_at slots k p here) in
    let new = ap length (kept_blank slots k (within_at slots k p here)) in
    omega (arith, old, new, length-append (before slots k) (p ∷ behind slots k), length-append (before slots k) (behind slots k))

pub length_written : (slots : List (Option Place)) (k : ℕ) (p q : Place) → get_or slots k None ≡ Some p
    → length (kept (set slots k (Some q))) ≡ length (kept slots)
length_written slots k p q here =
    let old = ap length (kept_at slots k p here) in
    let new = ap length (kept_set slots k q (within_at slots k p here)) in
    omega (arith, old, new, length-append (before slots k) (p ∷ behind slots k), length-append (before slots k) (q ∷ behind slots k))

module _ {S : Type 0} where
  pub holds : (m : IndexMap ℕ ℕ S) (slots : List (Option Place)) (id k : ℕ) → IsIndex m slots → get nat_eq m id ≡ Some k → Holds id k slots
  holds m slots id k is here =
      let at = stands id slots (sym (is.knows id) ∙ ap is_some here) in
      let there = is.numbers at.0 at.1 (within_at slots at.0 at.1 at.2) at.2 in
      let one : get nat_eq m id ≡ Some at.0 = ap (get nat_eq m) (sym at.3) ∙ there in
      let same : at.0 ≡ k = cc in
      (at.1, ap (λ n. get_or slots n None) (sym same) ∙ at.2, at.3)

  -- a message is settled: its slot is blank, and the index knows its id no more
  pub settled : (m n : IndexMap ℕ ℕ S) (slots : List (Option Place)) (k : ℕ) (p : Place) → IsIndex m slots → get_or slots k None ≡ Some p
      → ((q : ℕ) → get nat_eq n q ≡ cond (nat_eq p.id q) None (get nat_eq m q)) → index_map_len n + 1 ≡ index_map_len m
      → IsIndex n (set slots k None)
  settled m n slots k p is here updates len =
      let within = within_at slots k p here in
      let parts = cut slots k p is.distinct here in
      record {
        knows = λ q. ap is_some (updates q) ∙ settled_knows (nat_eq p.id q) (get nat_eq m q) _ (is.knows q)
            ∙ ap (λ l. cond (nat_eq p.id q) false (has q l)) (kept_at slots k p here)
            ∙ sym (has_without q (before slots k) p (behind slots k) parts.0 parts.1)
            ∙ ap (has q) (sym (kept_blank slots k within));
        numbers = λ j q in_range at. elim (cases_eq j k) [
          | inl same ↦ absurd (none_blank slots j k q same within at)
          | inr other ↦
              let at_j = sym (get_or-set_other slots k j None None other) ∙ at in
              let ids : nat_eq p.id q.id ≡ false = ne_eqb p.id q.id (λ same. other (apart slots j k q p is.distinct at_j here (sym same))) in
              updates q.id ∙ cond-false (nat_eq p.id q.id) None (get nat_eq m q.id) ids ∙ is.numbers j q (within_at slots j q at_j) at_j
        ];
        count = omega (arith, len, is.count, length_blank slots k p here);
        distinct = ap are_distinct (kept_blank slots k within) ∙ parts.2;
      }

  -- a message is held: it stands in one slot more, behind all others
  pub pushed : (m n : IndexMap ℕ ℕ S) (slots : List (Option Place)) (p : Place) → IsIndex m slots → has p.id (kept slots) ≡ false
      → ((q : ℕ) → get nat_eq n q ≡ cond (nat_eq p.id q) (Some (length slots)) (get nat_eq m q)) → index_map_len n ≡ index_map_len m + 1
      → IsIndex n (slots ++ Some p ∷ [])
  pushed m n slots p is none updates len =
      record {
        knows = λ q. ap is_some (updates q) ∙ pushed_knows (nat_eq p.id q) (length slots) (get nat_eq m q) _ (is.knows q)
            ∙ sym (has-append q (kept slots) (p ∷ [])) ∙ ap (has q) (sym (kept-append slots (Some p ∷ [])));
        numbers = λ k q in_range at. elim (cases_eq k (length slots)) [
          | inl same ↦
              let there : get_or (slots ++ Some p ∷ []) k None ≡ Some p =
              ap (λ i. get_or (slots ++ Some p ∷ []) i None) same ∙ get_or-append_seam slots (Some p) [] None in
              let one : p ≡ q = cc in
              updates q.id ∙ cond-true (nat_eq p.id q.id) (Some (length slots)) (get nat_eq m q.id) (eq-eqb p.id q.id (ap (λ x. x.id) one)) ∙ ap Some (sym same)
          | inr other ↦
              let lower : k < length slots = omega (arith, other, in_range, length-append slots (Some p ∷ [])) in
              let at_k = sym (get_or-append slots (Some p ∷ []) None k lower) ∙ at in
              let ids : nat_eq p.id q.id ≡ false =
              ne_eqb p.id q.id (λ same. true≢false (sym (has_at slots k q at_k) ∙ ap (λ i. has i (kept slots)) (sym same) ∙ none)) in
              updates q.id ∙ cond-false (nat_eq p.id q.id) (Some (length slots)) (get nat_eq m q.id) ids ∙ is.numbers k q lower at_k
        ];
        count =
            omega (arith, len, is.count, ap length (kept-append slots (Some p ∷ [])), length-append (kept slots) (p ∷ []));
        distinct = ap are_distinct (kept-append slots (Some p ∷ [])) ∙ distinct_push (kept slots) p is.distinct none;
      }

  -- a slot takes another message of its id
  pub rewritten : (m : IndexMap ℕ ℕ S) (slots : List (Option Place)) (k : ℕ) (p r : Place) → IsIndex m slots → get_or slots k None ≡ Some p → r.id ≡ p.id
      → IsIndex m (set slots k (Some r))
  rewritten m slots k p r is here ids =
      let within = within_at slots k p here in
      record {
        knows = λ q. is.knows q ∙ ap (has q) (kept_at slots k p here)
            ∙ sym (has_instead q (before slots k) p r (behind slots k) ids) ∙ ap (has q) (sym (kept_set slots k r within));
        numbers = λ j q in_range at. elim (cases_eq j k) [
          | inl same ↦
              let there : get_or (set slots k (Some r)) j None ≡ Some r =
              ap (λ i. get_or (set slots k (Some r)) i None) same ∙ get_or-set_same slots k (Some r) None within in
              let one : r ≡ q = cc in
              ap (get nat_eq m) (ap (λ x. x.id) (sym one) ∙ ids) ∙ is.numbers k p within here ∙ ap Some {x = k} {y = j} (sym same)
          | inr other ↦
              let at_j = sym (get_or-set_other slots k j (Some r) None other) ∙ at in
              is.numbers j q (within_at slots j q at_j) at_j
        ];
        count = is.count ∙ sym (length_written slots k p r here);
        distinct = ap are_distinct (kept_set slots k r within) ∙ distinct_instead (before slots k) p r (behind slots k) ids
            ∙ ap are_distinct (sym (kept_at slots k p here)) ∙ is.distinct;
      }

  -- the numbers are noted up to a slot, and then up to the next
  pub numbers_blank : (m : IndexMap ℕ ℕ S) (slots : List (Option Place)) (i : ℕ) → Numbers m slots i → get_or slots i None ≡ None → Numbers m slots (i + 1)
  numbers_blank m slots i noted blank k q lower at = elim (cases_eq k i) [
    | inl same ↦ let there : get_or slots k None ≡ None = ap (λ n. get_or slots n None) same ∙ blank in absurd cc
    | inr other ↦ noted k q (omega (arith, lower, other)) at
  ]

  pub numbers_more : (m n : IndexMap ℕ ℕ S) (slots : List (Option Place)) (i : ℕ) (p : Place) → are_distinct (kept slots) ≡ true → Numbers m slots i
      → get_or slots i None ≡ Some p → ((q : ℕ) → get nat_eq n q ≡ cond (nat_eq p.id q) (Some i) (get nat_eq m q)) → Numbers n slots (i + 1)
  numbers_more m n slots i p distinct noted here updates k q lower at = elim (cases_eq k i) [
    | inl same ↦
        let there : get_or slots k None ≡ Some p = ap (λ j. get_or slots j None) same ∙ here in
        let one : p ≡ q = cc in
        updates q.id ∙ cond-true (nat_eq p.id q.id) (Some i) (get nat_eq m q.id) (eq-eqb p.id q.id (ap (λ x. x.id) one)) ∙ ap Some (sym same)
    | inr other ↦
        let ids : nat_eq p.id q.id ≡ false = ne_eqb p.id q.id (λ same. other (apart slots k i q p distinct at here (sym same))) in
        updates q.id ∙ cond-false (nat_eq p.id q.id) (Some i) (get nat_eq m q.id) ids ∙ noted k q (omega (arith, lower, other)) at
  ]

  pub knows_more : (m n : IndexMap ℕ ℕ S) (slots : List (Option Place)) (i : ℕ) (p : Place) → Knows m slots
      → get_or slots i None ≡ Some p → ((q : ℕ) → get nat_eq n q ≡ cond (nat_eq p.id q) (Some i) (get nat_eq m q)) → Knows n slots
  knows_more m n slots i p knows here updates q =
      ap is_some (updates q)
      ∙ known_again (nat_eq p.id q) i (get nat_eq m q) _ (knows q) (λ e. ap (λ j. has j (kept slots)) (sym (eqb-true p.id q e)) ∙ has_at slots i p here)

  -- where the index knows no number of an id, no message has it
  pub not_held : (m : IndexMap ℕ ℕ S) (slots : List (Option Place)) (id : ℕ) → IsIndex m slots → get nat_eq m id ≡ None → find id (kept slots) ≡ None
  not_held m slots id is none =
      none_from (find id (kept slots)) (has-find id (kept slots) ∙ sym (is.knows id) ∙ ap is_some none)

  -- the messages are laid out in a file that is written anew: each stays in its slot
  pub relocated : (m : IndexMap ℕ ℕ S) (at : ℕ) (slots : List (Option Place)) → IsIndex m slots → IsIndex m (slots_laid_out at slots)
  relocated m at slots is =
      record {
        knows = λ q. is.knows q ∙ sym (has_laid_out q at (kept slots)) ∙ ap (has q) (sym (kept_laid_out at slots));
        numbers = λ k q in_range here.
            let old = stood at slots k q here in
            ap (get nat_eq m) (sym old.2) ∙ is.numbers k old.0 (within_at slots k old.0 old.1) old.1;
        count = is.count ∙ sym (length_laid_out at (kept slots)) ∙ ap length (sym (kept_laid_out at slots));
        distinct = ap are_distinct (kept_laid_out at slots) ∙ distinct_laid_out at (kept slots) ∙ is.distinct;
      }
