-- Numbers that are linked, cut and joined.
use Rattle.std.proofs.Common.{◌≡◌, ◌≤◌, ℕ, zero, suc, List, [], ◌∷◌, ◌++◌, Bool, true, false, not, cond, eqb, Option, Some, None, length, is_some, option_map, refl, sym, ap, ◌∙◌, arith}
use Rattle.std.proofs.lemmas.Bool.{eq-eqb, ne_eqb, cond-true, cond-false, true≢false, not-true, and_parts, or_left, or_right}
use Rattle.std.specs.List.{last_or}
use Rattle.std.specs.Option.{option_and_then}
use Rattle.ready_queue.specs.declared.links.Link.{Link}
use Rattle.ready_queue.specs.Queue.{has, are_distinct}
use Rattle.ready_queue.specs.Links.{first_or, AreLinked, walked}
use Rattle.ready_queue.specs.inside.Joins.{going_to, coming_from, with_next, with_previous}

pub first_or-append : (behind : Option ℕ) (xs ys : List ℕ) → first_or behind (xs ++ ys) ≡ first_or (first_or behind ys) xs
first_or-append behind [] ys = refl
first_or-append behind (x ∷ xs) ys = refl

pub last_or-append : (before : Option ℕ) (xs ys : List ℕ) → last_or before (xs ++ ys) ≡ last_or (last_or before xs) ys
last_or-append before [] ys = refl
last_or-append before (x ∷ xs) ys = last_or-append (Some x) xs ys

-- the first and the last stand among the numbers
pub first_stands : (ns : List ℕ) (n : ℕ) → first_or None ns ≡ Some n → has n ns ≡ true
first_stands [] n is = absurd cc
first_stands (x ∷ ns) n is = let same : x ≡ n = cc in or_left (eqb x n) (has n ns) (eq-eqb x n same)

pub last_stands : (x : ℕ) (ns : List ℕ) (n : ℕ) → last_or (Some x) ns ≡ Some n → has n (x ∷ ns) ≡ true
last_stands x [] n is = let same : x ≡ n = cc in or_left (eqb x n) false (eq-eqb x n same)
last_stands x (y ∷ ns) n is = or_right (eqb x n) (has n (y ∷ ns)) (last_stands y ns n is)

module _ (links : ℕ → Option Link) where
  -- a walk from the first number gives them all
  pub walked_all : (most : ℕ) (before : Option ℕ) (ns : List ℕ) → AreLinked links before ns None → length ns ≤ most → walked links most (first_or None ns) ≡ ns
  walked_all zero before [] linked within = refl
  walked_all (suc most) before [] linked within = refl
  walked_all zero before (n ∷ ns) linked within = absurd (omega (arith, within))
  walked_all (suc most) before (n ∷ ns) linked within =
      ap (λ l. n ∷ l) (ap (λ link. walked links most (option_and_then (λ l. l.next) link)) linked.0 ∙ walked_all most (Some n) ns linked.1 (omega (arith, within)))

  -- linked numbers are cut in two, and joined
  pub linked_parts : (before : Option ℕ) (xs ys : List ℕ) (behind : Option ℕ) → AreLinked links before (xs ++ ys) behind
      → AreLinked links before xs (first_or behind ys) × AreLinked links (last_or before xs) ys behind
  linked_parts before [] ys behind linked = (tt, linked)
  linked_parts before (x ∷ xs) ys behind linked =
      let rest = linked_parts (Some x) xs ys behind linked.1 in
      ((linked.0 ∙ ap (λ next. Some (record { previous = before; next = next })) (first_or-append behind xs ys), rest.0), rest.1)

  pub linked_join : (before : Option ℕ) (xs ys : List ℕ) (behind : Option ℕ) → AreLinked links before xs (first_or behind ys)
      → AreLinked links (last_or before xs) ys behind → AreLinked links before (xs ++ ys) behind
  linked_join before [] ys behind left right = right
  linked_join before (x ∷ xs) ys behind left right =
      (left.0 ∙ ap (λ next. Some (record { previous = before; next = next })) (sym (first_or-append behind xs ys)), linked_join (Some x) xs ys behind left.1 right)

  module _ (after : ℕ → Option Link) where
    -- they stay linked where their links stay
    pub linked_same : (before : Option ℕ) (ns : List ℕ) (behind : Option ℕ) → ((n : ℕ) → has n ns ≡ true → after n ≡ links n)
        → AreLinked links before ns behind → AreLinked after before ns behind
    linked_same before [] behind same linked = tt
    linked_same before (n ∷ ns) behind same linked = (
      same n (or_left (eqb n n) (has n ns) (eq-eqb n n refl)) ∙ linked.0,
      linked_same (Some n) ns behind (λ k is. same k (or_right (eqb n k) (has k ns) is)) linked.1,
    )

-- the link of another number stays, and that of the number takes what is put behind or before it
pub next_other : (previous next : Option ℕ) (n : ℕ) (link : Option Link) → (previous ≡ Some n → ⊥) → with_next previous next n link ≡ link
next_other None next n link other = refl
next_other (Some m) next n link other = cond-false (eqb m n) (option_map (going_to next) link) link (ne_eqb m n (λ same. other (ap Some same)))

pub previous_other : (next previous : Option ℕ) (n : ℕ) (link : Option Link) → (next ≡ Some n → ⊥) → with_previous next previous n link ≡ link
previous_other None previous n link other = refl
previous_other (Some m) previous n link other = cond-false (eqb m n) (option_map (coming_from previous) link) link (ne_eqb m n (λ same. other (ap Some same)))

next_own : (next : Option ℕ) (n : ℕ) (link : Option Link) → with_next (Some n) next n link ≡ option_map (going_to next) link
next_own next n link = cond-true (eqb n n) (option_map (going_to next) link) link (eq-eqb n n refl)

previous_own : (previous : Option ℕ) (n : ℕ) (link : Option Link) → with_previous (Some n) previous n link ≡ option_map (coming_from previous) link
previous_own previous n link = cond-true (eqb n n) (option_map (coming_from previous) link) link (eq-eqb n n refl)

-- a number is known as before
pub known_next : (previous next : Option ℕ) (n : ℕ) (link : Option Link) → is_some (with_next previous next n link) ≡ is_some link
known_next None next n link = refl
known_next (Some m) next n link = by (eqb m n) link
  where
    by : (t : Bool) (link : Option Link) → is_some (cond t (option_map (going_to next) link) link) ≡ is_some link
    by true None = refl
    by true (Some l) = refl
    by false link = refl

pub known_previous : (next previous : Option ℕ) (n : ℕ) (link : Option Link) → is_some (with_previous next previous n link) ≡ is_some link
known_previous None previous n link = refl
known_previous (Some m) previous n link = by (eqb m n) link
  where
    by : (t : Bool) (link : Option Link) → is_some (cond t (option_map (coming_from previous) link) link) ≡ is_some link
    by true None = refl
    by true (Some l) = refl
    by false link = refl

-- the head is none of those behind it
head_apart : (n : ℕ) (ns : List ℕ) (k : ℕ) → are_distinct (n ∷ ns) ≡ true → has k ns ≡ true → n ≡ k → ⊥
head_apart n ns k distinct is same =
    true≢false (sym is ∙ ap (λ i. has i ns) (sym same) ∙ not-true (has n ns) (and_parts (not (has n ns)) (are_distinct ns) distinct).0)

module _ (links after : ℕ → Option Link) where
  -- another number is put behind the last
  pub linked_next : (before : Option ℕ) (ns : List ℕ) (behind next : Option ℕ) → are_distinct ns ≡ true
      → ((n : ℕ) → has n ns ≡ true → after n ≡ with_next (last_or None ns) next n (links n))
      → AreLinked links before ns behind → AreLinked after before ns next
  linked_next before [] behind next distinct now linked = tt
  linked_next before (n ∷ []) behind next distinct now linked =
      (now n (or_left (eqb n n) false (eq-eqb n n refl)) ∙ next_own next n (links n) ∙ ap (option_map (going_to next)) linked.0, tt)
  linked_next before (n ∷ m ∷ ns) behind next distinct now linked =
      let other : last_or (Some m) ns ≡ Some n → ⊥ = λ is. head_apart n (m ∷ ns) n distinct (last_stands m ns n is) refl in (
        now n (or_left (eqb n n) (has n (m ∷ ns)) (eq-eqb n n refl)) ∙ next_other (last_or (Some m) ns) next n (links n) other ∙ linked.0,
        linked_next (Some n) (m ∷ ns) behind next (and_parts (not (has n (m ∷ ns))) (are_distinct (m ∷ ns)) distinct).1
            (λ k is. now k (or_right (eqb n k) (has k (m ∷ ns)) is)) linked.1,
      )

  -- another number is put before the first
  pub linked_previous : (before previous : Option ℕ) (ns : List ℕ) (behind : Option ℕ) → are_distinct ns ≡ true
      → ((n : ℕ) → has n ns ≡ true → after n ≡ with_previous (first_or None ns) previous n (links n))
      → AreLinked links before ns behind → AreLinked after previous ns behind
  linked_previous before previous [] behind distinct now linked = tt
  linked_previous before previous (n ∷ ns) behind distinct now linked =
      let rest : (k : ℕ) → has k ns ≡ true → after k ≡ links k =
      λ k is. now k (or_right (eqb n k) (has k ns) is)
      ∙ previous_other (Some n) previous k (links k) (λ same. head_apart n ns k distinct is cc) in (
        now n (or_left (eqb n n) (has n ns) (eq-eqb n n refl)) ∙ previous_own previous n (links n) ∙ ap (option_map (coming_from previous)) linked.0,
        linked_same links after (Some n) ns behind rest linked.1,
      )
