-- What is kept of the members stays right when one is put and when one is taken out.
use Rattle.std.proofs.Common.{◌≡◌, ◌<◌, ◌≤◌, ◌+◌, ℕ, List, [], ◌∷◌, Bool, true, false, ◌||◌, not, cond, nat_eq, nat_le, Option, Some, None, Result, Ok, Err, IsOk, OnOk, IfOk, if◌then◌else◌, is_some, length, refl, sym, ap, ◌∙◌, arith, inl, inr}
use Rattle.std.specs.List.{list_all, filter, find, slice_get}
use Rattle.std.specs.Option.{option_map}
use Rattle.std.proofs.lemmas.Bool.{cond-true, cond-false, and_parts, and_from, or_parts, or_from, or_left, or_right, not-true, not_from_false, not_from_true, true≢false, cases_Bool, eqb-true, eqb-false, ne_eqb, le-leb, lt-leb}
use Rattle.kumo_base.specs.Moment.{clamped}
use Rattle.indexmap.specs.IndexMap.{IndexMap, get, index_map_len}
use Rattle.scheduled_queue.specs.declared.due.Due.{Due}
use Rattle.scheduled_queue.specs.Dues.{is_before, are_in_order, are_distinct, contains, due_of, inserted, without, first_due}
use Rattle.scheduled_queue.specs.Kept.{IsKept}
use Rattle.scheduled_queue.specs.inside.Parts.{without_due}
use Rattle.scheduled_queue.proofs.Order.{before_trans, before_due, one_way, irreflexive_at}
use Rattle.scheduled_queue.proofs.Lists.{all_since}

-- the first member, where it is the one
find_map : {X Y : Type 0} (f : X → Y) (b : Bool) (x : X) (o : Option X) → option_map f (cond b (Some x) o) ≡ cond b (Some (f x)) (option_map f o)
find_map f true x o = refl
find_map f false x o = refl

due_at : (n : ℕ) (x : Due) (xs : List Due) → due_of n (x ∷ xs) ≡ cond (nat_eq x.number n) (Some x.due) (due_of n xs)
due_at n x xs = find_map (λ d. d.due) (nat_eq x.number n) x (find (λ d. nat_eq d.number n) xs)

swapped : {X : Type 0} (a b : Bool) (x y z : X) → (a ≡ true → b ≡ true → ⊥) → cond a x (cond b y z) ≡ cond b y (cond a x z)
swapped true true x y z apart = absurd (apart refl refl)
swapped true false x y z apart = refl
swapped false true x y z apart = refl
swapped false false x y z apart = refl

or_swapped : (a b c : Bool) → (a || (b || c)) ≡ (b || (a || c))
or_swapped true true c = refl
or_swapped true false c = refl
or_swapped false true c = refl
or_swapped false false c = refl

-- two numbers that differ are not both this one
not_both : (a b n : ℕ) → nat_eq a b ≡ false → nat_eq a n ≡ true → nat_eq b n ≡ true → ⊥
not_both a b n ne p q = eqb-false a b ne (eqb-true a n p ∙ sym (eqb-true b n q))

hidden : (b : Bool) (x : ℕ) (o : Option ℕ) → cond b None o ≡ cond b None (cond b (Some x) o)
hidden true x o = refl
hidden false x o = refl

no_due : (b : Bool) (o : Option ℕ) → o ≡ None → o ≡ cond b None o
no_due true o e = e
no_due false o e = refl

some_one : (a b : ℕ) → Some a ≡ Some b → a ≡ b
some_one a b e = cc

known_at : (b : Bool) (x : ℕ) (o : Option ℕ) (c : Bool) → is_some o ≡ c → is_some (cond b (Some x) o) ≡ (b || c)
known_at true x o c e = refl
known_at false x o c e = e

-- one is put
pub has_inserted : (n : ℕ) (d : Due) (xs : List Due) → contains n (inserted d xs) ≡ (nat_eq d.number n || contains n xs)
has_inserted n d [] = refl
has_inserted n d (x ∷ xs) = elim (cases_Bool (is_before d x)) [
  | inl t ↦ ap (contains n) (cond-true _ _ _ t)
  | inr f ↦
      ap (contains n) (cond-false _ _ _ f) ∙ ap (λ b. nat_eq x.number n || b) (has_inserted n d xs)
      ∙ or_swapped (nat_eq x.number n) (nat_eq d.number n) (contains n xs)
]

due_inserted : (n : ℕ) (d : Due) (xs : List Due) → contains d.number xs ≡ false
    → due_of n (inserted d xs) ≡ cond (nat_eq d.number n) (Some d.due) (due_of n xs)
due_inserted n d [] new = due_at n d []
due_inserted n d (x ∷ xs) new =
    let parts = or_parts (nat_eq x.number d.number) (contains d.number xs) new in
    elim (cases_Bool (is_before d x)) [
      | inl t ↦ ap (due_of n) (cond-true _ _ _ t) ∙ due_at n d (x ∷ xs)
      | inr f ↦
          ap (due_of n) (cond-false _ _ _ f) ∙ due_at n x (inserted d xs)
          ∙ ap (λ o. cond (nat_eq x.number n) (Some x.due) o) (due_inserted n d xs parts.1)
          ∙ swapped (nat_eq x.number n) (nat_eq d.number n) (Some x.due) (Some d.due) (due_of n xs) (not_both x.number d.number n parts.0)
          ∙ ap (λ o. cond (nat_eq d.number n) (Some d.due) o) (sym (due_at n x xs))
    ]

distinct_inserted : (d : Due) (xs : List Due) → are_distinct xs ≡ true → contains d.number xs ≡ false → are_distinct (inserted d xs) ≡ true
distinct_inserted d [] distinct new = refl
distinct_inserted d (x ∷ xs) distinct new =
    let parts = or_parts (nat_eq x.number d.number) (contains d.number xs) new in
    let each = and_parts (not (contains x.number xs)) (are_distinct xs) distinct in
    let other : nat_eq d.number x.number ≡ false = ne_eqb d.number x.number (λ e. eqb-false x.number d.number parts.0 (sym e)) in
    elim (cases_Bool (is_before d x)) [
      | inl t ↦
          ap are_distinct (cond-true _ _ _ t)
          ∙ and_from (not (contains d.number (x ∷ xs))) (are_distinct (x ∷ xs)) (not_from_false (contains d.number (x ∷ xs)) new) distinct
      | inr f ↦
          ap are_distinct (cond-false _ _ _ f)
          ∙ and_from (not (contains x.number (inserted d xs))) (are_distinct (inserted d xs))
          (not_from_false (contains x.number (inserted d xs))
          (has_inserted x.number d xs ∙ or_from (nat_eq d.number x.number) (contains x.number xs) other (not-true (contains x.number xs) each.0)))
          (distinct_inserted d xs each.1 parts.1)
    ]

all_inserted : (p : Due → Bool) (d : Due) (xs : List Due) → p d ≡ true → list_all p xs ≡ true → list_all p (inserted d xs) ≡ true
all_inserted p d [] one all = and_from (p d) true one refl
all_inserted p d (x ∷ xs) one all =
    let parts = and_parts (p x) (list_all p xs) all in
    elim (cases_Bool (is_before d x)) [
      | inl t ↦ ap (list_all p) (cond-true _ _ _ t) ∙ and_from (p d) (list_all p (x ∷ xs)) one all
      | inr f ↦
          ap (list_all p) (cond-false _ _ _ f)
          ∙ and_from (p x) (list_all p (inserted d xs)) parts.0 (all_inserted p d xs one parts.1)
    ]

sorted_inserted : (d : Due) (xs : List Due) → are_in_order xs ≡ true → contains d.number xs ≡ false → are_in_order (inserted d xs) ≡ true
sorted_inserted d [] sorted new = refl
sorted_inserted d (x ∷ xs) sorted new =
    let parts = or_parts (nat_eq x.number d.number) (contains d.number xs) new in
    let each = and_parts (list_all (is_before x) xs) (are_in_order xs) sorted in
    elim (cases_Bool (is_before d x)) [
      | inl t ↦
          ap are_in_order (cond-true _ _ _ t)
          ∙ and_from (list_all (is_before d) (x ∷ xs)) (are_in_order (x ∷ xs))
          (and_from (is_before d x) (list_all (is_before d) xs) t
          (all_since (is_before x) (is_before d) (λ y h. before_trans d x y t h) xs each.0))
          sorted
      | inr f ↦
          ap are_in_order (cond-false _ _ _ f)
          ∙ and_from (list_all (is_before x) (inserted d xs)) (are_in_order (inserted d xs))
          (all_inserted (is_before x) d xs (one_way d x f (λ e. eqb-false x.number d.number parts.0 (sym e))) each.0)
          (sorted_inserted d xs each.1 parts.1)
    ]

length_inserted : (d : Due) (xs : List Due) → length (inserted d xs) ≡ length xs + 1
length_inserted d [] = refl
length_inserted d (x ∷ xs) = elim (cases_Bool (is_before d x)) [
  | inl t ↦ let e : length (inserted d (x ∷ xs)) ≡ length (d ∷ x ∷ xs) = ap length (cond-true _ _ _ t) in omega (arith, e)
  | inr f ↦
      let e : length (inserted d (x ∷ xs)) ≡ length (x ∷ inserted d xs) = ap length (cond-false _ _ _ f) in
      omega (arith, e, length_inserted d xs)
]

-- one is taken out
all_left : (p q : Due → Bool) (xs : List Due) → list_all p xs ≡ true → list_all p (filter q xs) ≡ true
all_left p q [] h = refl
all_left p q (x ∷ xs) h =
    let parts = and_parts (p x) (list_all p xs) h in
    elim (cases_Bool (q x)) [
      | inl t ↦ ap (list_all p) (cond-true _ _ _ t) ∙ and_from (p x) (list_all p (filter q xs)) parts.0 (all_left p q xs parts.1)
      | inr f ↦ ap (list_all p) (cond-false _ _ _ f) ∙ all_left p q xs parts.1
    ]

sorted_left : (q : Due → Bool) (xs : List Due) → are_in_order xs ≡ true → are_in_order (filter q xs) ≡ true
sorted_left q [] h = refl
sorted_left q (x ∷ xs) h =
    let parts = and_parts (list_all (is_before x) xs) (are_in_order xs) h in
    elim (cases_Bool (q x)) [
      | inl t ↦
          ap are_in_order (cond-true _ _ _ t)
          ∙ and_from (list_all (is_before x) (filter q xs)) (are_in_order (filter q xs)) (all_left (is_before x) q xs parts.0) (sorted_left q xs parts.1)
      | inr f ↦ ap are_in_order (cond-false _ _ _ f) ∙ sorted_left q xs parts.1
    ]

none_left : (n : ℕ) (q : Due → Bool) (xs : List Due) → contains n xs ≡ false → contains n (filter q xs) ≡ false
none_left n q [] h = refl
none_left n q (x ∷ xs) h =
    let parts = or_parts (nat_eq x.number n) (contains n xs) h in
    elim (cases_Bool (q x)) [
      | inl t ↦ ap (contains n) (cond-true _ _ _ t) ∙ or_from (nat_eq x.number n) (contains n (filter q xs)) parts.0 (none_left n q xs parts.1)
      | inr f ↦ ap (contains n) (cond-false _ _ _ f) ∙ none_left n q xs parts.1
    ]

distinct_left : (q : Due → Bool) (xs : List Due) → are_distinct xs ≡ true → are_distinct (filter q xs) ≡ true
distinct_left q [] h = refl
distinct_left q (x ∷ xs) h =
    let parts = and_parts (not (contains x.number xs)) (are_distinct xs) h in
    elim (cases_Bool (q x)) [
      | inl t ↦
          ap are_distinct (cond-true _ _ _ t)
          ∙ and_from (not (contains x.number (filter q xs))) (are_distinct (filter q xs))
          (not_from_false (contains x.number (filter q xs)) (none_left x.number q xs (not-true (contains x.number xs) parts.0)))
          (distinct_left q xs parts.1)
      | inr f ↦ ap are_distinct (cond-false _ _ _ f) ∙ distinct_left q xs parts.1
    ]

-- the test by which members stay when a number is taken out
abbrev other : ℕ → Due → Bool
other k d = not (nat_eq d.number k)

due_without : (n k : ℕ) (xs : List Due) → due_of n (without k xs) ≡ cond (nat_eq k n) None (due_of n xs)
due_without n k [] = no_due (nat_eq k n) None refl
due_without n k (x ∷ xs) = elim (cases_Bool (nat_eq x.number k)) [
  | inl t ↦
      let same = eqb-true x.number k t in
      ap (due_of n) (cond-false _ _ _ (not_from_true (nat_eq x.number k) t)) ∙ due_without n k xs
      ∙ hidden (nat_eq k n) x.due (due_of n xs) ∙ ap (λ j. cond (nat_eq k n) None (cond (nat_eq j n) (Some x.due) (due_of n xs))) (sym same)
      ∙ ap (λ o. cond (nat_eq k n) None o) (sym (due_at n x xs))
  | inr f ↦
      ap (due_of n) (cond-true _ _ _ (not_from_false (nat_eq x.number k) f)) ∙ due_at n x (without k xs)
      ∙ ap (λ o. cond (nat_eq x.number n) (Some x.due) o) (due_without n k xs)
      ∙ swapped (nat_eq x.number n) (nat_eq k n) (Some x.due) None (due_of n xs) (not_both x.number k n f)
      ∙ ap (λ o. cond (nat_eq k n) None o) (sym (due_at n x xs))
]

pub without_absent : (k : ℕ) (xs : List Due) → contains k xs ≡ false → without k xs ≡ xs
without_absent k [] h = refl
without_absent k (x ∷ xs) h =
    let parts = or_parts (nat_eq x.number k) (contains k xs) h in
    cond-true _ _ _ (not_from_false (nat_eq x.number k) parts.0) ∙ ap (λ l. x ∷ l) (without_absent k xs parts.1)

length_without : (k : ℕ) (xs : List Due) → are_distinct xs ≡ true → contains k xs ≡ true → length (without k xs) + 1 ≡ length xs
length_without k [] distinct has = absurd (true≢false (sym has))
length_without k (x ∷ xs) distinct has =
    let each = and_parts (not (contains x.number xs)) (are_distinct xs) distinct in
    elim (cases_Bool (nat_eq x.number k)) [
      | inl t ↦
          let gone : length (without k (x ∷ xs)) ≡ length (without k xs) = ap length (cond-false _ _ _ (not_from_true (nat_eq x.number k) t)) in
          let none : contains k xs ≡ false = ap (λ j. contains j xs) (sym (eqb-true x.number k t)) ∙ not-true (contains x.number xs) each.0 in
          let rest = ap length (without_absent k xs none) in
          omega (arith, gone, rest)
      | inr f ↦
          let stays : length (without k (x ∷ xs)) ≡ length (x ∷ without k xs) = ap length (cond-true _ _ _ (not_from_false (nat_eq x.number k) f)) in
          let has_rest : contains k xs ≡ true = ap (λ b. b || contains k xs) (sym f) ∙ has in
          omega (arith, stays, length_without k xs each.1 has_rest)
    ]

-- another number stays, wherever it stands
stays_other : (d e : Due) → nat_eq e.number d.number ≡ false → (is_before d e || is_before e d) ≡ true
stays_other d e ne = elim (cases_Bool (is_before d e)) [
  | inl t ↦ or_left (is_before d e) (is_before e d) t
  | inr f ↦ or_right (is_before d e) (is_before e d) (one_way d e f (λ s. eqb-false e.number d.number ne (sym s)))
]

others_stay : (d : Due) (xs : List Due) → contains d.number xs ≡ false → without_due d xs ≡ xs
others_stay d [] h = refl
others_stay d (x ∷ xs) h =
    let parts = or_parts (nat_eq x.number d.number) (contains d.number xs) h in
    cond-true _ _ _ (stays_other d x parts.0) ∙ ap (λ l. x ∷ l) (others_stay d xs parts.1)

-- taken out by its place, or by its number
pub same_without : (d : Due) (xs : List Due) → are_distinct xs ≡ true → due_of d.number xs ≡ Some d.due → without_due d xs ≡ without d.number xs
same_without d [] distinct is = refl
same_without d (x ∷ xs) distinct is =
    let each = and_parts (not (contains x.number xs)) (are_distinct xs) distinct in
    let at = sym (due_at d.number x xs) ∙ is in
    elim (cases_Bool (nat_eq x.number d.number)) [
      | inl t ↦
          let same = eqb-true x.number d.number t in
          let none = ap (λ j. contains j xs) (sym same) ∙ not-true (contains x.number xs) each.0 in
          let due : Some x.due ≡ Some d.due = sym (cond-true _ _ _ t) ∙ at in
          cond-false _ _ _ (irreflexive_at d x (some_one x.due d.due due) same) ∙ others_stay d xs none
          ∙ sym (cond-false _ _ _ (not_from_true (nat_eq x.number d.number) t) ∙ without_absent d.number xs none)
      | inr f ↦
          cond-true _ _ _ (stays_other d x f)
          ∙ ap (λ l. x ∷ l) (same_without d xs each.1 (sym (cond-false _ _ _ f) ∙ at))
          ∙ sym (cond-true _ _ _ (not_from_false (nat_eq x.number d.number) f))
    ]

pub known : (n : ℕ) (xs : List Due) → is_some (due_of n xs) ≡ contains n xs
known n [] = refl
known n (x ∷ xs) = ap is_some (due_at n x xs) ∙ known_at (nat_eq x.number n) x.due (due_of n xs) (contains n xs) (known n xs)

-- what is kept stays right
module _ {S : Type 0} where
  pub kept_put : (m n : IndexMap ℕ ℕ S) (d : Due) (xs : List Due) → IsKept m xs → contains d.number xs ≡ false
      → ((q : ℕ) → get nat_eq n q ≡ cond (nat_eq d.number q) (Some d.due) (get nat_eq m q)) → index_map_len n ≡ index_map_len m + 1 → IsKept n (inserted d xs)
  kept_put m n d xs is new updates len = record {
    sorted = sorted_inserted d xs is.sorted new;
    distinct = distinct_inserted d xs is.distinct new;
    knows =
        λ q. updates q ∙ ap (λ o. cond (nat_eq d.number q) (Some d.due) o) (is.knows q) ∙ sym (due_inserted q d xs new);
    count = omega (arith, len, is.count, length_inserted d xs);
  }

  pub kept_without : (m n : IndexMap ℕ ℕ S) (k : ℕ) (xs : List Due) → IsKept m xs → contains k xs ≡ true
      → ((q : ℕ) → get nat_eq n q ≡ cond (nat_eq k q) None (get nat_eq m q)) → index_map_len n + 1 ≡ index_map_len m → IsKept n (without k xs)
  kept_without m n k xs is has updates len = record {
    sorted = sorted_left (other k) xs is.sorted;
    distinct = distinct_left (other k) xs is.distinct;
    knows = λ q. updates q ∙ ap (λ o. cond (nat_eq k q) None o) (is.knows q) ∙ sym (due_without q k xs);
    count = omega (arith, len, is.count, length_without k xs is.distinct has);
  }

-- what the calls of the index say
none_from : (o : Option ℕ) → is_some o ≡ false → o ≡ None
none_from None e = refl
none_from (Some x) e = absurd (true≢false e)

pub at_ok : {T E P : Type 0} (r : Result T E) → IsOk r → OnOk r P → P
at_ok (Ok x) is h = h
at_ok (Err e) is h = absurd (true≢false (sym is))

pub one_more : {E : Type 0} (r : Result (Option ℕ) E) (o : Option ℕ) (a b : ℕ) → IsOk r → IfOk r (λ x. x ≡ o)
    → IfOk r (λ x. a ≡ b + (if is_some x then 0 else 1)) → is_some o ≡ false → a ≡ b + 1
one_more (Ok x) o a b is same len none = len ∙ ap (λ y. b + (if is_some y then 0 else 1)) (same ∙ none_from o none)
one_more (Err e) o a b is same len none = absurd (true≢false (sym is))

pub one_less : (o : Option ℕ) (x a b : ℕ) → o ≡ Some x → a + (if is_some o then 1 else 0) ≡ b → a + 1 ≡ b
one_less o x a b is len = ap (λ y. a + (if is_some y then 1 else 0)) (sym is) ∙ len

-- which is due first
none_early : (t : ℕ) (x : Due) (xs : List Due) → t < x.due → list_all (is_before x) xs ≡ true → find (λ d. nat_le d.due t) xs ≡ None
none_early t x [] late h = refl
none_early t x (y ∷ ys) late h =
    let parts = and_parts (is_before x y) (list_all (is_before x) ys) h in
    cond-false _ _ _ (lt-leb y.due t (omega (arith, late, before_due x y parts.0))) ∙ none_early t x ys late parts.1

pub first_none : (t : ℕ) (xs : List Due) → slice_get xs 0 ≡ None → first_due t xs ≡ None
first_none t [] h = refl
first_none t (x ∷ xs) h = absurd cc

pub first_is : (t : ℕ) (xs : List Due) (d : Due) → slice_get xs 0 ≡ Some d → d.due ≤ clamped t → first_due t xs ≡ Some d.number
first_is t [] d h due = absurd cc
first_is t (x ∷ xs) d h due =
    let same : x ≡ d = cc in
    ap (option_map (λ d. d.number)) (cond-true _ _ _ (le-leb x.due (clamped t) (let e = ap (λ y. y.due) same in omega (arith, e, due))))
    ∙ ap (λ y. Some y.number) same

pub first_late : (t : ℕ) (xs : List Due) (d : Due) → slice_get xs 0 ≡ Some d → are_in_order xs ≡ true → clamped t < d.due → first_due t xs ≡ None
first_late t [] d h sorted late = refl
first_late t (x ∷ xs) d h sorted late =
    let same : x ≡ d = cc in
    let later : clamped t < x.due = let e = ap (λ y. y.due) same in omega (arith, e, late) in
    let parts = and_parts (list_all (is_before x) xs) (are_in_order xs) sorted in
    ap (option_map (λ d. d.number)) (cond-false _ _ _ (lt-leb x.due (clamped t) later) ∙ none_early (clamped t) x xs later parts.0)
