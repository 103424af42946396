-- A list of numbers cut at one of them, and the first that is free.
use Rattle.std.proofs.Common.{◌≡◌, ◌<◌, ◌^◌, ℕ, List, [], ◌∷◌, ◌++◌, Bool, true, false, not, ◌||◌, cond, eqb, Option, Some, None, refl, sym, ap, ◌∙◌, subst, ⊎_elim, arith}
use Rattle.std.proofs.lemmas.Bool.{and_parts, and_from, or_parts, or_from, or_left, or_right, or_cases, not-true, not_from_false, eqb-true, eq-eqb, true≢false}
use Rattle.std.proofs.lemmas.Bool.Decides.{nat_tests}
use Rattle.std.proofs.lemmas.List.Folds.{list_any-append}
use Rattle.ready_queue.specs.Queue.{has, without, are_distinct, first_free, AllFit, AllHeld, AnswersAs, IsFirstFree}

pub has-append : (n : ℕ) (xs ys : List ℕ) → has n (xs ++ ys) ≡ (has n xs || has n ys)
has-append n xs ys = list_any-append (λ x. eqb x n) xs ys

-- a number stands among those before a place, or behind it
pub has_before : (n : ℕ) (xs ys : List ℕ) → has n xs ≡ true → has n (xs ++ ys) ≡ true
has_before n xs ys is = has-append n xs ys ∙ or_left (has n xs) (has n ys) is

pub has_behind : (n : ℕ) (xs ys : List ℕ) → has n ys ≡ true → has n (xs ++ ys) ≡ true
has_behind n xs ys is = has-append n xs ys ∙ or_right (has n xs) (has n ys) is

-- a number that stands among these cuts them
abbrev pub Cut : ℕ → List ℕ → Type 0
Cut n ns = (xs : List ℕ) × (ys : List ℕ) × (ns ≡ xs ++ n ∷ ys)

pub cut_at : (n : ℕ) (ns : List ℕ) → has n ns ≡ true → Cut n ns
cut_at n [] is = absurd (true≢false (sym is))
cut_at n (x ∷ ns) is =
    ⊎_elim (λ here. ([], ns, ap (λ k. k ∷ ns) (eqb-true x n here)))
    (λ later. let rest = cut_at n ns later in (x ∷ rest.0, rest.1, ap (λ l. x ∷ l) rest.2))
    (or_cases (eqb x n) (has n ns) is)

turned : (a b : ℕ) → eqb a b ≡ false → eqb b a ≡ false
turned a b e = grind (arith, nat_tests)

-- about a number, none of those before and behind it is it, and none stands twice
pub distinct_parts : (xs : List ℕ) (n : ℕ) (ys : List ℕ) → are_distinct (xs ++ n ∷ ys) ≡ true
    → (has n xs ≡ false) × (has n ys ≡ false) × (are_distinct (xs ++ ys) ≡ true)
distinct_parts [] n ys distinct =
    let parts = and_parts (not (has n ys)) (are_distinct ys) distinct in
    (refl, not-true (has n ys) parts.0, parts.1)
distinct_parts (x ∷ xs) n ys distinct =
    let parts = and_parts (not (has x (xs ++ n ∷ ys))) (are_distinct (xs ++ n ∷ ys)) distinct in
    let rest = distinct_parts xs n ys parts.1 in
    let none = not-true (has x (xs ++ n ∷ ys)) parts.0 in
    let sides = or_parts (has x xs) (eqb n x || has x ys) (sym (has-append x xs (n ∷ ys)) ∙ none) in
    let behind = or_parts (eqb n x) (has x ys) sides.1 in
    let left : has x (xs ++ ys) ≡ false = has-append x xs ys ∙ or_from (has x xs) (has x ys) sides.0 behind.1 in (
      or_from (eqb x n) (has n xs) (turned n x behind.0) rest.0,
      rest.1,
      and_from (not (has x (xs ++ ys))) (are_distinct (xs ++ ys)) (not_from_false (has x (xs ++ ys)) left) rest.2,
    )

-- those before a place are distinct, those behind it, and no number stands on both sides
pub distinct_halves : (xs ys : List ℕ) → are_distinct (xs ++ ys) ≡ true
    → (are_distinct xs ≡ true) × (are_distinct ys ≡ true) × ((n : ℕ) → has n xs ≡ true → has n ys ≡ false)
distinct_halves [] ys distinct = (refl, distinct, λ n is. absurd (true≢false (sym is)))
distinct_halves (x ∷ xs) ys distinct =
    let parts = and_parts (not (has x (xs ++ ys))) (are_distinct (xs ++ ys)) distinct in
    let rest = distinct_halves xs ys parts.1 in
    let none = or_parts (has x xs) (has x ys) (sym (has-append x xs ys) ∙ not-true (has x (xs ++ ys)) parts.0) in (
      and_from (not (has x xs)) (are_distinct xs) (not_from_false (has x xs) none.0) rest.0,
      rest.1,
      λ n is. ⊎_elim (λ here. ap (λ k. has k ys) (sym (eqb-true x n here)) ∙ none.1) (λ later. rest.2 n later)
          (or_cases (eqb x n) (has n xs) is),
    )

pub distinct_push : (ns : List ℕ) (n : ℕ) → are_distinct ns ≡ true → has n ns ≡ false → are_distinct (ns ++ n ∷ []) ≡ true
distinct_push [] n distinct none = refl
distinct_push (x ∷ ns) n distinct none =
    let parts = and_parts (not (has x ns)) (are_distinct ns) distinct in
    let sides = or_parts (eqb x n) (has n ns) none in
    let other : has x (ns ++ n ∷ []) ≡ false =
    has-append x ns (n ∷ []) ∙ or_from (has x ns) (eqb n x || false) (not-true (has x ns) parts.0) (or_from (eqb n x) false (turned x n sides.0) refl) in
    and_from (not (has x (ns ++ n ∷ []))) (are_distinct (ns ++ n ∷ [])) (not_from_false (has x (ns ++ n ∷ [])) other) (distinct_push ns n parts.1 sides.1)

-- without a number
pub without_absent : (n : ℕ) (ns : List ℕ) → has n ns ≡ false → without n ns ≡ ns
without_absent n [] none = refl
without_absent n (x ∷ ns) none =
    let parts = or_parts (eqb x n) (has n ns) none in
    rw parts.0 (ap (λ l. x ∷ l) (without_absent n ns parts.1))

pub without_between : (n : ℕ) (xs ys : List ℕ) → has n xs ≡ false → has n ys ≡ false → without n (xs ++ n ∷ ys) ≡ xs ++ ys
without_between n [] ys before behind = rw (eq-eqb n n refl) (without_absent n ys behind)
without_between n (x ∷ xs) ys before behind =
    let parts = or_parts (eqb x n) (has n xs) before in
    rw parts.0 (ap (λ l. x ∷ l) (without_between n xs ys parts.1 behind))

-- a number goes, and the others stay
between_parts : (t a b r : Bool) → r ≡ (a || b) → (t ≡ true → (a ≡ false) × (b ≡ false)) → r ≡ cond t false (a || (t || b))
between_parts true a b r e none = let n = none refl in e ∙ rw (n.0, n.1) refl
between_parts false a b r e none = e

pub has_without : (k : ℕ) (xs : List ℕ) (n : ℕ) (ys : List ℕ) → has n xs ≡ false → has n ys ≡ false
    → has k (xs ++ ys) ≡ cond (eqb n k) false (has k (xs ++ n ∷ ys))
has_without k xs n ys before behind =
    let alike : eqb n k ≡ true → (has k xs ≡ false) × (has k ys ≡ false) =
    λ e. let same = eqb-true n k e in (ap (λ i. has i xs) (sym same) ∙ before, ap (λ i. has i ys) (sym same) ∙ behind) in
    between_parts (eqb n k) (has k xs) (has k ys) _ (has-append k xs ys) alike
    ∙ ap (cond (eqb n k) false) (sym (has-append k xs (n ∷ ys)))

-- of the others each stood there before
pub stood : (k : ℕ) (xs : List ℕ) (n : ℕ) (ys : List ℕ) → has k (xs ++ ys) ≡ true → has k (xs ++ n ∷ ys) ≡ true
stood k xs n ys is =
    ⊎_elim (λ left. has_before k xs (n ∷ ys) left) (λ right. has_behind k xs (n ∷ ys) (or_right (eqb n k) (has k ys) right))
    (or_cases (has k xs) (has k ys) (sym (has-append k xs ys) ∙ is))

pub fits_push : (ns : List ℕ) (n : ℕ) → AllFit ns → n < 2 ^ 32 → AllFit (ns ++ n ∷ [])
fits_push ns n fits is k there =
    ⊎_elim (λ left. fits k left)
    (λ right. ⊎_elim (λ here. subst (λ i. i < 2 ^ 32) (eqb-true n k here) is) (λ no. absurd (true≢false (sym no))) (or_cases (eqb n k) false right))
    (or_cases (has k ns) (has k (n ∷ [])) (sym (has-append k ns (n ∷ [])) ∙ there))

-- one more that is held
pub held_more : (Answers : ℕ → Bool → Type 0) (xs : List ℕ) (n : ℕ) → AllHeld Answers xs → Answers n true → AllHeld Answers (xs ++ n ∷ [])
held_more Answers xs n held is k there =
    ⊎_elim (λ left. held k left)
    (λ right. ⊎_elim (λ here. subst (λ i. Answers i true) (eqb-true n k here) is) (λ no. absurd (true≢false (sym no))) (or_cases (eqb n k) false right))
    (or_cases (has k xs) (has k (n ∷ [])) (sym (has-append k xs (n ∷ [])) ∙ there))

-- the first that is free by the answers is the first by the test that they give
pub passed_over : (test : ℕ → Bool) (xs ys : List ℕ) → ((n : ℕ) → has n xs ≡ true → test n ≡ true) → first_free test (xs ++ ys) ≡ first_free test ys
passed_over test [] ys held = refl
passed_over test (x ∷ xs) ys held =
    rw (held x (or_left (eqb x x) (has x xs) (eq-eqb x x refl)))
    (passed_over test xs ys (λ n is. held n (or_right (eqb x n) (has n xs) is)))

pub free_by_test : (Answers : ℕ → Bool → Type 0) (test : ℕ → Bool) (ns : List ℕ) (found : Option ℕ) → AllFit ns → AnswersAs Answers test ns
    → IsFirstFree Answers ns found → found ≡ first_free test ns
free_by_test Answers test ns None fits answered is =
    sym (ap (first_free test) (sym (append_none ns)) ∙ passed_over test ns [] (λ n there. sym (answered n true (fits n there) there (is n there))))
  where
    append_none : (ns : List ℕ) → ns ++ [] ≡ ns
    append_none [] = refl
    append_none (x ∷ ns) = ap (λ l. x ∷ l) (append_none ns)
free_by_test Answers test ns (Some n) fits answered is =
    let xs = is.0 in
    let ys = is.1 in
    let there : (k : ℕ) → has k (xs ++ n ∷ ys) ≡ true → has k ns ≡ true = λ k h. ap (has k) is.2 ∙ h in
    let held : (k : ℕ) → has k xs ≡ true → test k ≡ true =
    λ k h. let in_all = there k (has_before k xs (n ∷ ys) h) in sym (answered k true (fits k in_all) in_all (is.3 k h)) in
    let own = there n (has_behind n xs (n ∷ ys) (or_left (eqb n n) (has n ys) (eq-eqb n n refl))) in
    let free : test n ≡ false = sym (answered n false (fits n own) own is.4) in
    sym (ap (first_free test) is.2 ∙ passed_over test xs (n ∷ ys) held ∙ rw free refl)
