-- Slots cut at one that is not blank.
use Rattle.std.proofs.Common.{◌≡◌, ◌<◌, ◌+◌, ℕ, zero, suc, List, [], ◌∷◌, ◌++◌, true, eqb, Option, Some, None, length, get_or, set, take, drop, filter, is_some, refl, ap, ⊎_elim, arith}
use Rattle.std.proofs.lemmas.Bool.{or_cases, eqb-true, or_left, or_right, eq-eqb}
use Rattle.spool_index.specs.declared.place.Place.{Place}
use Rattle.spool_index.specs.Places.{has, after_place, laid_out}
use Rattle.spool_index.specs.Slots.{kept, slots_laid_out}

pub kept-append : (xs ys : List (Option Place)) → kept (xs ++ ys) ≡ kept xs ++ kept ys
kept-append [] ys = refl
kept-append (None ∷ xs) ys = kept-append xs ys
kept-append (Some p ∷ xs) ys = ap (λ l. p ∷ l) (kept-append xs ys)

pub kept-filter : (xs : List (Option Place)) → kept (filter is_some xs) ≡ kept xs
kept-filter [] = refl
kept-filter (None ∷ xs) = kept-filter xs
kept-filter (Some p ∷ xs) = ap (λ l. p ∷ l) (kept-filter xs)

-- the messages before a slot, and those behind it
abbrev pub before : List (Option Place) → ℕ → List Place
before xs k = kept (take k xs)

abbrev pub behind : List (Option Place) → ℕ → List Place
behind xs k = kept (drop (suc k) xs)

pub kept_at : (xs : List (Option Place)) (k : ℕ) (p : Place) → get_or xs k None ≡ Some p → kept xs ≡ before xs k ++ p ∷ behind xs k
kept_at [] k p is = absurd cc
kept_at (None ∷ xs) zero p is = absurd cc
kept_at (Some q ∷ xs) zero p is = let same : q ≡ p = cc in ap (λ x. x ∷ kept xs) same
kept_at (None ∷ xs) (suc k) p is = kept_at xs k p is
kept_at (Some q ∷ xs) (suc k) p is = ap (λ l. q ∷ l) (kept_at xs k p is)

pub kept_blank : (xs : List (Option Place)) (k : ℕ) → k < length xs → kept (set xs k None) ≡ before xs k ++ behind xs k
kept_blank [] k within = absurd (omega (arith, within))
kept_blank (x ∷ xs) zero within = refl
kept_blank (None ∷ xs) (suc k) within = kept_blank xs k (omega (arith, within))
kept_blank (Some q ∷ xs) (suc k) within = ap (λ l. q ∷ l) (kept_blank xs k (omega (arith, within)))

pub kept_set : (xs : List (Option Place)) (k : ℕ) (p : Place) → k < length xs → kept (set xs k (Some p)) ≡ before xs k ++ p ∷ behind xs k
kept_set [] k p within = absurd (omega (arith, within))
kept_set (x ∷ xs) zero p within = refl
kept_set (None ∷ xs) (suc k) p within = kept_set xs k p (omega (arith, within))
kept_set (Some q ∷ xs) (suc k) p within = ap (λ l. q ∷ l) (kept_set xs k p (omega (arith, within)))

-- a slot that is not blank is there
pub within_at : (xs : List (Option Place)) (k : ℕ) (p : Place) → get_or xs k None ≡ Some p → k < length xs
within_at [] k p is = absurd cc
within_at (x ∷ xs) zero p is = omega arith
within_at (x ∷ xs) (suc k) p is = let rest = within_at xs k p is in omega (arith, rest)

-- a message in a slot is among those that are kept
pub has_at : (xs : List (Option Place)) (k : ℕ) (p : Place) → get_or xs k None ≡ Some p → has p.id (kept xs) ≡ true
has_at [] k p is = absurd cc
has_at (None ∷ xs) zero p is = absurd cc
has_at (Some q ∷ xs) zero p is = let same : q ≡ p = cc in or_left (eqb q.id p.id) _ (eq-eqb q.id p.id (ap (λ x. x.id) same))
has_at (None ∷ xs) (suc k) p is = has_at xs k p is
has_at (Some q ∷ xs) (suc k) p is = or_right (eqb q.id p.id) _ (has_at xs k p is)

-- an id that is kept stands in a slot
abbrev pub Stands : ℕ → List (Option Place) → Type 0
Stands id xs = (k : ℕ) × (p : Place) × (get_or xs k None ≡ Some p) × (p.id ≡ id)

pub stands : (id : ℕ) (xs : List (Option Place)) → has id (kept xs) ≡ true → Stands id xs
stands id [] is = absurd cc
stands id (None ∷ xs) is = let at = stands id xs is in (suc at.0, at.1, at.2, at.3)
stands id (Some q ∷ xs) is =
    ⊎_elim (λ here. (0, q, refl, eqb-true q.id id here)) (λ later. let at = stands id xs later in (suc at.0, at.1, at.2, at.3))
    (or_cases (eqb q.id id) (has id (kept xs)) is)

-- slots laid out in a file that is written anew
pub kept_laid_out : (at : ℕ) (xs : List (Option Place)) → kept (slots_laid_out at xs) ≡ laid_out at (kept xs)
kept_laid_out at [] = refl
kept_laid_out at (None ∷ xs) = kept_laid_out at xs
kept_laid_out at (Some p ∷ xs) = ap (λ l. record p { at = at + 6 } ∷ l) (kept_laid_out (after_place at p) xs)

pub length_slots_laid_out : (at : ℕ) (xs : List (Option Place)) → length (slots_laid_out at xs) ≡ length xs
length_slots_laid_out at [] = refl
length_slots_laid_out at (None ∷ xs) = ap suc (length_slots_laid_out at xs)
length_slots_laid_out at (Some p ∷ xs) = ap suc (length_slots_laid_out (after_place at p) xs)

-- what a slot held before, where it now holds a message: one of its id
abbrev pub Stood : ℕ → List (Option Place) → ℕ → Type 0
Stood id xs k = (p : Place) × (get_or xs k None ≡ Some p) × (p.id ≡ id)

pub stood : (at : ℕ) (xs : List (Option Place)) (k : ℕ) (q : Place) → get_or (slots_laid_out at xs) k None ≡ Some q → Stood q.id xs k
stood at [] k q is = absurd cc
stood at (None ∷ xs) zero q is = absurd cc
stood at (Some p ∷ xs) zero q is =
    let same : record p { at = at + 6 } ≡ q = cc in
    (p, refl, ap (λ x. x.id) same)
stood at (None ∷ xs) (suc k) q is = stood at xs k q is
stood at (Some p ∷ xs) (suc k) q is = stood (after_place at p) xs k q is
