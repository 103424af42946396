-- How many elements of a list pass a test.
use Rattle.std.proofs.Common.{◌≡◌, ◌<◌, ◌≤◌, ◌+◌, ℕ, suc, List, [], ◌∷◌, Bool, true, false, cond, ◌&&◌, ◌||◌, All, count_by, length, get_or, filter, find, Option, Some, refl, sym, ap, ◌∙◌, arith}
use Rattle.std.specs.List.{list_any}
use Rattle.std.proofs.lemmas.List.Sums.{sum_by-cons, sum_by-le, sum_by-le-sum_by, get_or-le-sum_by}
use Rattle.std.proofs.lemmas.List.Elements.{All-tail}

one_or_none : (b : Bool) → b ≡ false → cond b 1 0 ≤ 0
one_or_none true is = absurd cc
one_or_none false is = omega arith

one : (b : Bool) → b ≡ true → ◌≡◌ {A = ℕ} (cond b 1 0) 1
one true is = refl
one false is = absurd cc

one_wider : (a b : Bool) → (a ≡ true → b ≡ true) → cond a 1 0 ≤ cond b 1 0
one_wider false b wider = omega arith
one_wider true b wider = let is = one b (wider refl) in omega (arith, is)

module _ {X : Type 0} where
  pub count_cons : (p : X → Bool) (x : X) (xs : List X) → count_by p (x ∷ xs) ≡ cond (p x) 1 0 + count_by p xs
  count_cons p x xs = sum_by-cons (λ y. cond (p y) 1 0) x xs

  pub count_skip : (p : X → Bool) (x : X) (xs : List X) → p x ≡ false → count_by p (x ∷ xs) ≡ count_by p xs
  count_skip p x xs fails =
      let first = count_cons p x xs in
      let none = one_or_none (p x) fails in
      omega (arith, first, none)

  -- where no element passes
  pub count_none : (p : X → Bool) (xs : List X) → All (λ x. p x ≡ false) xs → count_by p xs ≡ 0
  count_none p xs none =
      let most = sum_by-le (λ x. cond (p x) 1 0) 0 xs (λ k d within. one_or_none (p (get_or xs k d)) (none k d within)) in
      omega (arith, most)

  -- where one passes
  pub count_some : (p : X → Bool) (xs : List X) (k : ℕ) (d : X) → k < length xs → p (get_or xs k d) ≡ true → 0 < count_by p xs
  count_some p xs k d within is =
      let least = get_or-le-sum_by (λ x. cond (p x) 1 0) xs k d within in
      let here = one (p (get_or xs k d)) is in
      omega (arith, least, here)

  found_at : (p : X → Bool) (x d : X) (xs : List X) (b : Bool) → p x ≡ b → 0 < cond b 1 0 + count_by p xs
      → (0 < count_by p xs → (k : ℕ) × (k < length xs) × (p (get_or xs k d) ≡ true))
      → (k : ℕ) × (k < length (x ∷ xs)) × (p (get_or (x ∷ xs) k d) ≡ true)
  found_at p x d xs true is some later = (0, omega arith, is)
  found_at p x d xs false is some later = let at = later (omega (arith, some)) in (suc at.0, omega (arith, at.1), at.2)

  -- one passes where some are counted
  pub count_found : (p : X → Bool) (xs : List X) (d : X) → 0 < count_by p xs → (k : ℕ) × (k < length xs) × (p (get_or xs k d) ≡ true)
  count_found p [] d some = absurd (omega (arith, some))
  count_found p (x ∷ xs) d some =
      let first = count_cons p x xs in
      found_at p x d xs (p x) refl (omega (arith, first, some)) (count_found p xs d)

  -- tests that agree at each element
  pub count_same : (p q : X → Bool) (xs : List X) → All (λ x. p x ≡ q x) xs → count_by p xs ≡ count_by q xs
  count_same p q [] same = refl
  count_same p q (x ∷ xs) same =
      let here : p x ≡ q x = same 0 x (omega arith) in
      let rest : count_by p xs ≡ count_by q xs = count_same p q xs (All-tail (λ y. p y ≡ q y) x xs same) in
      let first = count_cons p x xs in
      let second = count_cons q x xs in
      first ∙ ap (λ b. cond b 1 0 + count_by p xs) here ∙ ap (λ n. cond (q x) 1 0 + n) rest ∙ sym second

  -- what passes one test passes another
  pub count_wider : (p q : X → Bool) (xs : List X) → ((x : X) → p x ≡ true → q x ≡ true) → count_by p xs ≤ count_by q xs
  count_wider p q xs wider =
      sum_by-le-sum_by (λ x. cond (p x) 1 0) (λ x. cond (q x) 1 0) xs (λ x. one_wider (p x) (q x) (wider x))

  -- a search among the elements that pass a test
  find_step : (b c : Bool) (x : X) (o : Option X) → cond b (cond c (Some x) o) o ≡ cond (b && c) (Some x) o
  find_step true c x o = refl
  find_step false c x o = refl

  find_cond : (q : X → Bool) (b : Bool) (x : X) (xs : List X) → find q (cond b (x ∷ xs) xs) ≡ cond b (cond (q x) (Some x) (find q xs)) (find q xs)
  find_cond q true x xs = refl
  find_cond q false x xs = refl

  pub find-filter : (p q : X → Bool) (xs : List X) → find q (filter p xs) ≡ find (λ x. p x && q x) xs
  find-filter p q [] = refl
  find-filter p q (x ∷ xs) =
      find_cond q (p x) x (filter p xs) ∙ find_step (p x) (q x) x (find q (filter p xs))
      ∙ ap (cond (p x && q x) (Some x)) (find-filter p q xs)

  any_cond : (q : X → Bool) (b : Bool) (x : X) (xs : List X) (t : Bool) → list_any q xs ≡ t → list_any q (cond b (x ∷ xs) xs) ≡ ((b && q x) || t)
  any_cond q true x xs t rest = ap (λ r. q x || r) rest
  any_cond q false x xs t rest = rest

  pub any-filter : (p q : X → Bool) (xs : List X) → list_any q (filter p xs) ≡ list_any (λ x. p x && q x) xs
  any-filter p q [] = refl
  any-filter p q (x ∷ xs) = any_cond q (p x) x (filter p xs) _ (any-filter p q xs)
