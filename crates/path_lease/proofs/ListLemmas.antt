-- Lists with one more element.
use Rattle.std.proofs.Common.{◌≡◌, ◌+◌, inl, inr, refl, sym, ap, ◌∙◌, ℕ, List, [], ◌∷◌, ◌++◌, Bool, true, false, cond, not, ◌&&◌, ◌||◌, nat_eq, length, filter, arith, append-nil}
use Rattle.std.specs.Prelude.{◌==◌}
use Rattle.std.specs.List.{list_any, count_by}
use Rattle.std.proofs.lemmas.Bool.{eqb-true, eq-eqb, true≢false, and_parts, not-true, or_parts, cases_Bool}
use Rattle.std.proofs.lemmas.List.Elements.{filter-append}
use Rattle.std.proofs.lemmas.List.Folds.{list_any-append}
use Rattle.std.proofs.lemmas.List.Sums.{sum_by_push}
use Rattle.path_lease.specs.Calls.{Start}
use Rattle.path_lease.specs.Standing.{are_distinct}

pub or_false : (b : Bool) → (b || false) ≡ b
or_false true = refl
or_false false = refl

module _ {X : Type 0} where
  pub any_more : (p : X → Bool) (xs : List X) (x : X) → list_any p (xs ++ x ∷ []) ≡ (list_any p xs || p x)
  any_more p xs x = list_any-append p xs (x ∷ []) ∙ ap (λ b. list_any p xs || b) (or_false (p x))

  pub count_more : (p : X → Bool) (xs : List X) (x : X) → count_by p (xs ++ x ∷ []) ≡ count_by p xs + cond (p x) 1 0
  count_more p xs x = sum_by_push (λ y. cond (p y) 1 0) xs x

  pub filter_alike : (p q : X → Bool) → ((x : X) → p x ≡ q x) → (xs : List X) → filter p xs ≡ filter q xs
  filter_alike p q same [] = refl
  filter_alike p q same (x ∷ xs) =
      ap (λ b. cond b (x ∷ filter p xs) (filter p xs)) (same x) ∙ ap (λ ys. cond (q x) (x ∷ ys) ys) (filter_alike p q same xs)

  cond_one : (b : Bool) (x : X) → b ≡ true → cond b (x ∷ []) [] ≡ x ∷ []
  cond_one true x e = refl
  cond_one false x e = absurd cc

  pub filter_more : (p : X → Bool) (xs : List X) (x : X) → p x ≡ true → filter p (xs ++ x ∷ []) ≡ filter p xs ++ x ∷ []
  filter_more p xs x passes = filter-append p xs (x ∷ []) ∙ ap (λ ys. filter p xs ++ ys) (cond_one (p x) x passes)

  pub filter_less : (p : X → Bool) (xs : List X) (x : X) → p x ≡ false → filter p (xs ++ x ∷ []) ≡ filter p xs
  filter_less p xs x fails =
      filter-append p xs (x ∷ []) ∙ ap (λ b. filter p xs ++ cond b (x ∷ []) []) fails ∙ append-nil (filter p xs)

pub flip : (a b : ℕ) → nat_eq a b ≡ false → nat_eq b a ≡ false
flip a b e = by (nat_eq b a) refl where
  by : (t : Bool) → nat_eq b a ≡ t → t ≡ false
  by false is = refl
  by true is = absurd (true≢false (sym (eq-eqb a b (sym (eqb-true b a is))) ∙ e))

-- some start is of this connection
abbrev pub has : ℕ → List Start → Bool
has conn starts = list_any (λ o. o.conn == conn) starts

-- one more of another connection leaves them distinct
pub distinct_more : (os : List Start) (o : Start) → are_distinct os ≡ true → has o.conn os ≡ false → are_distinct (os ++ o ∷ []) ≡ true
distinct_more [] o distinct none = refl
distinct_more (x ∷ xs) o distinct none =
    let parts = and_parts (not (has x.conn xs)) (are_distinct xs) distinct in
    let apart = or_parts (nat_eq x.conn o.conn) (has o.conn xs) none in
    let rest = distinct_more xs o parts.1 apart.1 in
    let here : has x.conn (xs ++ o ∷ []) ≡ false =
    any_more (λ p. p.conn == x.conn) xs o ∙ ap (λ b. b || nat_eq o.conn x.conn) (not-true (has x.conn xs) parts.0) ∙ flip x.conn o.conn apart.0 in
    ap (λ b. not b && are_distinct (xs ++ o ∷ [])) here ∙ rest

-- those that are of no connection that passes, and are not of this one, where none is
one_out : (closed : ℕ → Bool) (n : ℕ) (os : List Start) → has n os ≡ false
    → filter (λ o. not (closed o.conn || nat_eq n o.conn)) os ≡ filter (λ o. not (closed o.conn)) os
one_out closed n [] none = refl
one_out closed n (x ∷ xs) none =
    let parts = or_parts (nat_eq x.conn n) (has n xs) none in
    let rest = one_out closed n xs parts.1 in
    let here : nat_eq n x.conn ≡ false = flip x.conn n parts.0 in
    ap (λ b. cond (not (closed x.conn || b)) (x ∷ filter (λ o. not (closed o.conn || nat_eq n o.conn)) xs) (filter (λ o. not (closed o.conn || nat_eq n o.conn)) xs)) here
    ∙ ap (λ b. cond (not b) (x ∷ filter (λ o. not (closed o.conn || nat_eq n o.conn)) xs) (filter (λ o. not (closed o.conn || nat_eq n o.conn)) xs)) (or_false (closed x.conn))
    ∙ ap (λ ys. cond (not (closed x.conn)) (x ∷ ys) ys) rest

abbrev Left : (ℕ → Bool) → ℕ → List Start → List Start
Left closed n os = filter (λ o. not (closed o.conn || nat_eq n o.conn)) os

abbrev Was : (ℕ → Bool) → List Start → List Start
Was closed os = filter (λ o. not (closed o.conn)) os

one_less_at : (closed : ℕ → Bool) (n : ℕ) (x : Start) (xs : List Start) → nat_eq x.conn n ≡ true → has x.conn xs ≡ false → closed n ≡ false
    → length (Left closed n (x ∷ xs)) + 1 ≡ length (Was closed (x ∷ xs))
one_less_at closed n x xs e alone open_yet =
    let none : has n xs ≡ false = ap (λ k. has k xs) (sym (eqb-true x.conn n e)) ∙ alone in
    let gone = ap (λ b. cond (not b) (x ∷ Left closed n xs) (Left closed n xs)) here in
    let stood = ap (λ b. cond (not b) (x ∷ Was closed xs) (Was closed xs)) (ap closed (eqb-true x.conn n e) ∙ open_yet) in
    omega (arith, ap length gone, ap length stood, ap length (one_out closed n xs none))
  where
    last : (b : Bool) → (b || true) ≡ true
    last true = refl
    last false = refl

    here : (closed x.conn || nat_eq n x.conn) ≡ true
    here = ap (λ k. closed x.conn || nat_eq n k) (eqb-true x.conn n e) ∙ ap (λ b. closed x.conn || b) (eq-eqb n n refl) ∙ last (closed x.conn)

one_less_behind : (closed : ℕ → Bool) (n : ℕ) (x : Start) (xs : List Start) → nat_eq n x.conn ≡ false
    → length (Left closed n xs) + 1 ≡ length (Was closed xs) → length (Left closed n (x ∷ xs)) + 1 ≡ length (Was closed (x ∷ xs))
one_less_behind closed n x xs e rest = by (closed x.conn) refl where
  other : (closed x.conn || nat_eq n x.conn) ≡ closed x.conn
  other = ap (λ b. closed x.conn || b) e ∙ or_false (closed x.conn)

  by : (b : Bool) → closed x.conn ≡ b → length (Left closed n (x ∷ xs)) + 1 ≡ length (Was closed (x ∷ xs))
  by true is =
      let gone = ap (λ b. cond (not b) (x ∷ Left closed n xs) (Left closed n xs)) (other ∙ is) in
      let stood = ap (λ b. cond (not b) (x ∷ Was closed xs) (Was closed xs)) is in
      omega (arith, rest, ap length gone, ap length stood)
  by false is =
      let gone = ap (λ b. cond (not b) (x ∷ Left closed n xs) (Left closed n xs)) (other ∙ is) in
      let stood = ap (λ b. cond (not b) (x ∷ Was closed xs) (Was closed xs)) is in
      omega (arith, rest, ap length gone, ap length stood)

-- of distinct ones, one less is left where one more connection is closed that was open
pub one_less : (closed : ℕ → Bool) (n : ℕ) (os : List Start) → are_distinct os ≡ true → has n os ≡ true → closed n ≡ false
    → length (Left closed n os) + 1 ≡ length (Was closed os)
one_less closed n [] distinct there open_yet = absurd cc
one_less closed n (x ∷ xs) distinct there open_yet =
    let parts = and_parts (not (has x.conn xs)) (are_distinct xs) distinct in
    elim (cases_Bool (nat_eq x.conn n)) [
      | inl e ↦ one_less_at closed n x xs e (not-true (has x.conn xs) parts.0) open_yet
      | inr e ↦ one_less_behind closed n x xs (flip x.conn n e) (one_less closed n xs parts.1 (sym (ap (λ b. b || has n xs) e) ∙ there) open_yet)
    ]
