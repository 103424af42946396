-- A list of places cut at a message, and what a look at it, its settling and its delay come to there.
use Rattle.std.proofs.Common.{◌≡◌, ◌≤◌, ◌+◌, ℕ, suc, length, List, [], ◌∷◌, ◌++◌, Bool, true, false, not, ◌&&◌, ◌||◌, cond, eqb, Option, Some, refl, sym, ap, ◌∙◌, arith, is_some, sum_by}
use Rattle.std.proofs.lemmas.Bool.{and_parts, and_from, or_parts, or_from, not-true, not_from_false, eqb-true, eq-eqb}
use Rattle.std.proofs.lemmas.Bool.Decides.{nat_tests}
use Rattle.std.proofs.lemmas.List.Folds.{list_any-append}
use Rattle.std.proofs.lemmas.List.Sums.{sum_by-append, sum_by-cons, sum_by-le-sum_by}
use Rattle.spool_index.specs.declared.place.Place.{Place}
use Rattle.spool_index.specs.Places.{has, find, are_distinct, without, with_delay, delayed, live_cost, compacted_cost, live_size, compacted_size, after_place, after_all, laid_out}

pub has-append : (id : ℕ) (xs ys : List Place) → has id (xs ++ ys) ≡ (has id xs || has id ys)
has-append id xs ys = list_any-append (λ p. eqb p.id id) xs ys

some_first : (t : Bool) (x : Place) (o : Option Place) (b : Bool) → is_some o ≡ b → is_some (cond t (Some x) o) ≡ (t || b)
some_first true x o b e = refl
some_first false x o b e = e

-- a message is found where one has the id
pub has-find : (id : ℕ) (xs : List Place) → is_some (find id xs) ≡ has id xs
has-find id [] = refl
has-find id (x ∷ xs) = some_first (eqb x.id id) x (find id xs) (has id xs) (has-find id xs)

pub known_by_find : (id : ℕ) (xs : List Place) (o : Option Place) → o ≡ find id xs → is_some o ≡ has id xs
known_by_find id xs o is = ap is_some is ∙ has-find id xs

pub find_between : (id : ℕ) (xs : List Place) (p : Place) (ys : List Place) → has id xs ≡ false → p.id ≡ id → find id (xs ++ p ∷ ys) ≡ Some p
find_between id [] p ys none is = rw (eq-eqb p.id id is) refl
find_between id (x ∷ xs) p ys none is =
    let parts = or_parts (eqb x.id id) (has id xs) none in
    rw parts.0 (find_between id xs p ys parts.1 is)

pub without_between : (id : ℕ) (xs : List Place) (p : Place) (ys : List Place) → has id xs ≡ false → p.id ≡ id → without id (xs ++ p ∷ ys) ≡ xs ++ ys
without_between id [] p ys none is = rw (eq-eqb p.id id is) refl
without_between id (x ∷ xs) p ys none is =
    let parts = or_parts (eqb x.id id) (has id xs) none in
    rw parts.0 (ap (λ l. x ∷ l) (without_between id xs p ys parts.1 is))

pub delay_between : (id failures due : ℕ) (xs : List Place) (p : Place) (ys : List Place) → has id xs ≡ false → p.id ≡ id
    → with_delay id failures due (xs ++ p ∷ ys) ≡ xs ++ delayed failures due p ∷ ys
delay_between id failures due [] p ys none is = rw (eq-eqb p.id id is) refl
delay_between id failures due (x ∷ xs) p ys none is =
    let parts = or_parts (eqb x.id id) (has id xs) none in
    rw parts.0 (ap (λ l. x ∷ l) (delay_between id failures due xs p ys parts.1 is))

-- the message of an id goes, and the others stay
between_parts : (t a b r : Bool) → r ≡ (a || b) → (t ≡ true → (a ≡ false) × (b ≡ false)) → r ≡ cond t false (a || (t || b))
between_parts true a b r e none = let n = none refl in e ∙ rw (n.0, n.1) refl
between_parts false a b r e none = e

pub has_without : (id : ℕ) (xs : List Place) (p : Place) (ys : List Place) → has p.id xs ≡ false → has p.id ys ≡ false
    → has id (xs ++ ys) ≡ cond (eqb p.id id) false (has id (xs ++ p ∷ ys))
has_without id xs p ys before behind =
    let alike : eqb p.id id ≡ true → (has id xs ≡ false) × (has id ys ≡ false) =
    λ e. let same = eqb-true p.id id e in (ap (λ i. has i xs) (sym same) ∙ before, ap (λ i. has i ys) (sym same) ∙ behind) in
    between_parts (eqb p.id id) (has id xs) (has id ys) _ (has-append id xs ys) alike
    ∙ ap (cond (eqb p.id id) false) (sym (has-append id xs (p ∷ ys)))

-- a message in the place of one of its id changes nothing of which ids there are
pub has_instead : (id : ℕ) (xs : List Place) (p q : Place) (ys : List Place) → q.id ≡ p.id → has id (xs ++ q ∷ ys) ≡ has id (xs ++ p ∷ ys)
has_instead id [] p q ys same = ap (λ i. eqb i id || has id ys) same
has_instead id (x ∷ xs) p q ys same = ap (λ b. eqb x.id id || b) (has_instead id xs p q ys same)

pub distinct_instead : (xs : List Place) (p q : Place) (ys : List Place) → q.id ≡ p.id → are_distinct (xs ++ q ∷ ys) ≡ are_distinct (xs ++ p ∷ ys)
distinct_instead [] p q ys same = ap (λ i. not (has i ys) && are_distinct ys) same
distinct_instead (x ∷ xs) p q ys same =
    ap (λ b. not b && are_distinct (xs ++ q ∷ ys)) (has_instead x.id xs p q ys same)
    ∙ ap (λ b. not (has x.id (xs ++ p ∷ ys)) && b) (distinct_instead xs p q ys same)

turned : (a b : ℕ) → eqb a b ≡ false → eqb b a ≡ false
turned a b e = grind (arith, nat_tests)

pub distinct_parts : (xs : List Place) (p : Place) (ys : List Place) → are_distinct (xs ++ p ∷ ys) ≡ true
    → (has p.id xs ≡ false) × (has p.id ys ≡ false) × (are_distinct (xs ++ ys) ≡ true)
distinct_parts [] p ys distinct =
    let parts = and_parts (not (has p.id ys)) (are_distinct ys) distinct in
    (refl, not-true (has p.id ys) parts.0, parts.1)
distinct_parts (x ∷ xs) p ys distinct =
    let parts = and_parts (not (has x.id (xs ++ p ∷ ys))) (are_distinct (xs ++ p ∷ ys)) distinct in
    let rest = distinct_parts xs p ys parts.1 in
    let none = not-true (has x.id (xs ++ p ∷ ys)) parts.0 in
    let sides = or_parts (has x.id xs) (eqb p.id x.id || has x.id ys) (sym (has-append x.id xs (p ∷ ys)) ∙ none) in
    let behind = or_parts (eqb p.id x.id) (has x.id ys) sides.1 in
    let left : has x.id (xs ++ ys) ≡ false = has-append x.id xs ys ∙ or_from (has x.id xs) (has x.id ys) sides.0 behind.1 in (
      or_from (eqb x.id p.id) (has p.id xs) (turned p.id x.id behind.0) rest.0,
      rest.1,
      and_from (not (has x.id (xs ++ ys))) (are_distinct (xs ++ ys)) (not_from_false (has x.id (xs ++ ys)) left) rest.2,
    )

pub distinct_push : (xs : List Place) (p : Place) → are_distinct xs ≡ true → has p.id xs ≡ false → are_distinct (xs ++ p ∷ []) ≡ true
distinct_push [] p distinct none = refl
distinct_push (x ∷ xs) p distinct none =
    let parts = and_parts (not (has x.id xs)) (are_distinct xs) distinct in
    let sides = or_parts (eqb x.id p.id) (has p.id xs) none in
    let other : has x.id (xs ++ p ∷ []) ≡ false =
    has-append x.id xs (p ∷ []) ∙ or_from (has x.id xs) (eqb p.id x.id || false) (not-true (has x.id xs) parts.0) (or_from (eqb p.id x.id) false (turned x.id p.id sides.0) refl) in
    and_from (not (has x.id (xs ++ p ∷ []))) (are_distinct (xs ++ p ∷ [])) (not_from_false (has x.id (xs ++ p ∷ [])) other) (distinct_push xs p parts.1 sides.1)

-- the sizes of a list that is cut at a message
pub sum_between : (f : Place → ℕ) (xs : List Place) (p : Place) (ys : List Place) → sum_by f (xs ++ p ∷ ys) ≡ f p + sum_by f (xs ++ ys)
sum_between f xs p ys =
    omega (arith, sum_by-append f xs (p ∷ ys), sum_by-append f xs ys, sum_by-cons f p ys)

costs_less : (p : Place) → compacted_cost p ≤ live_cost p
costs_less p = grind (arith, nat_tests)

pub compacted_within : (xs : List Place) → compacted_size xs ≤ live_size xs
compacted_within xs = omega (arith, sum_by-le-sum_by compacted_cost live_cost xs costs_less)

-- a sum without the message of an id, and with another number of its failures
sum_first : (f : Place → ℕ) (t : Bool) (x p : Place) (xs ys : List Place) (o : Option Place) → cond t (Some x) o ≡ Some p
    → (o ≡ Some p → sum_by f xs ≡ f p + sum_by f ys) → sum_by f (x ∷ xs) ≡ f p + sum_by f (cond t xs (x ∷ ys))
sum_first f true x p xs ys o found rest = let same : x ≡ p = cc in sum_by-cons f x xs ∙ ap (λ q. f q + sum_by f xs) same
sum_first f false x p xs ys o found rest = omega (arith, sum_by-cons f x xs, sum_by-cons f x ys, rest found)

pub sum_without : (f : Place → ℕ) (id : ℕ) (xs : List Place) (p : Place) → find id xs ≡ Some p → sum_by f xs ≡ f p + sum_by f (without id xs)
sum_without f id [] p found = absurd cc
sum_without f id (x ∷ xs) p found = sum_first f (eqb x.id id) x p xs (without id xs) (find id xs) found (sum_without f id xs p)

sum_changed : (f : Place → ℕ) (t : Bool) (x p y z : Place) (xs ys : List Place) (o : Option Place) → cond t (Some x) o ≡ Some p
    → (x ≡ p → y ≡ z) → (o ≡ Some p → f z + sum_by f xs ≡ f p + sum_by f ys) → f z + sum_by f (x ∷ xs) ≡ f p + sum_by f (cond t (y ∷ xs) (x ∷ ys))
sum_changed f true x p y z xs ys o found same rest =
    let one : x ≡ p = cc in
    omega (arith, sum_by-cons f x xs, sum_by-cons f y xs, ap f one, ap f (same one))
sum_changed f false x p y z xs ys o found same rest = omega (arith, sum_by-cons f x xs, sum_by-cons f x ys, rest found)

pub sum_delay : (f : Place → ℕ) (id failures due : ℕ) (xs : List Place) (p : Place) → find id xs ≡ Some p
    → f (delayed failures due p) + sum_by f xs ≡ f p + sum_by f (with_delay id failures due xs)
sum_delay f id failures due [] p found = absurd cc
sum_delay f id failures due (x ∷ xs) p found =
    sum_changed f (eqb x.id id) x p (delayed failures due x) (delayed failures due p) xs (with_delay id failures due xs) (find id xs) found
    (λ one. ap (delayed failures due) one) (sum_delay f id failures due xs p)

-- messages laid out in a file that is written anew: their ids and sizes do not change
pub has_laid_out : (id at : ℕ) (ps : List Place) → has id (laid_out at ps) ≡ has id ps
has_laid_out id at [] = refl
has_laid_out id at (p ∷ ps) = ap (λ b. eqb p.id id || b) (has_laid_out id (after_place at p) ps)

pub distinct_laid_out : (at : ℕ) (ps : List Place) → are_distinct (laid_out at ps) ≡ are_distinct ps
distinct_laid_out at [] = refl
distinct_laid_out at (p ∷ ps) =
    ap (λ b. not b && are_distinct (laid_out (after_place at p) ps)) (has_laid_out p.id (after_place at p) ps)
    ∙ ap (λ b. not (has p.id ps) && b) (distinct_laid_out (after_place at p) ps)

pub length_laid_out : (at : ℕ) (ps : List Place) → length (laid_out at ps) ≡ length ps
length_laid_out at [] = refl
length_laid_out at (p ∷ ps) = ap suc (length_laid_out (after_place at p) ps)

-- a sum of what does not depend on where a message stands
pub sum_laid_out : (f : Place → ℕ) → ((p : Place) (x : ℕ) → f (record p { at = x }) ≡ f p) → (at : ℕ) (ps : List Place)
    → sum_by f (laid_out at ps) ≡ sum_by f ps
sum_laid_out f same at [] = refl
sum_laid_out f same at (p ∷ ps) =
    let moved = record p { at = at + 6 } in
    let rest = sum_laid_out f same (after_place at p) ps in
    let here = same p (at + 6) in
    omega (arith, here, rest, sum_by-cons f moved (laid_out (after_place at p) ps), sum_by-cons f p ps)

pub live_size_laid_out : (at : ℕ) (ps : List Place) → live_size (laid_out at ps) ≡ live_size ps
live_size_laid_out at ps = ap (λ n. 17 + n) (sum_laid_out live_cost (λ p x. refl) at ps)

pub compacted_size_laid_out : (at : ℕ) (ps : List Place) → compacted_size (laid_out at ps) ≡ compacted_size ps
compacted_size_laid_out at ps = ap (λ n. 17 + n) (sum_laid_out compacted_cost (λ p x. refl) at ps)

pub laid_out-append : (at : ℕ) (ps qs : List Place) → laid_out at (ps ++ qs) ≡ laid_out at ps ++ laid_out (after_all at ps) qs
laid_out-append at [] qs = refl
laid_out-append at (p ∷ ps) qs = ap (λ l. record p { at = at + 6 } ∷ l) (laid_out-append (after_place at p) ps qs)

pub after_all-append : (at : ℕ) (ps qs : List Place) → after_all at (ps ++ qs) ≡ after_all (after_all at ps) qs
after_all-append at [] qs = refl
after_all-append at (p ∷ ps) qs = after_all-append (after_place at p) ps qs

pub after_all_sum : (at : ℕ) (ps : List Place) → after_all at ps ≡ at + sum_by compacted_cost ps
after_all_sum at [] = omega arith
after_all_sum at (p ∷ ps) = omega (arith, after_all_sum (after_place at p) ps, sum_by-cons compacted_cost p ps)

-- behind the last record one byte is left of the size
pub after_all_size : (ps : List Place) → after_all 16 ps + 1 ≡ compacted_size ps
after_all_size ps = omega (arith, after_all_sum 16 ps)
