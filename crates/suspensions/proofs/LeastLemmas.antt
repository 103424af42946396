-- The least number of what passes a test.
use Rattle.std.proofs.Common.{◌≡◌, ◌<◌, ◌≤◌, ◌+◌, ℕ, suc, List, [], ◌∷◌, ◌++◌, Bool, true, false, cond, nat_lt, ◌==◌, All, count_by, length, get_or, filter, find, map, min, Option, Some, None, option_map, refl, sym, ap, ◌∙◌, subst, ⊎_elim, arith}
use Rattle.std.specs.Option.{option_map_or}
use Rattle.std.proofs.lemmas.Bool.{and_parts, and_from, and_right, and_left, eqb-true, eq-eqb, lt-ltb, le-ltb, ltb-true, cases_lt, cases_order}
use Rattle.std.proofs.lemmas.List.Sums.{sum_by_push, sum_by-append}
use Rattle.suspensions.specs.Orders.{least}
use Rattle.suspensions.specs.inside.Least.{is_at, is_below, IsLeast}
use Rattle.suspensions.proofs.CountLemmas.{count_cons, count_skip, count_none, count_some, count_wider}

module _ {X : Type 0} (number_of : X → ℕ) (test : X → Bool) where
  at_passes : (n : ℕ) (x : X) → is_at number_of test n x ≡ true → test x ≡ true
  at_passes n x is = (and_parts (test x) (number_of x == n) is).0

  below_passes : (n : ℕ) (x : X) → is_below number_of test n x ≡ true → test x ≡ true
  below_passes n x is = (and_parts (test x) (nat_lt (number_of x) n) is).0

  at_below : (n m : ℕ) → n < m → (x : X) → is_at number_of test n x ≡ true → is_below number_of test m x ≡ true
  at_below n m less x is =
      let parts = and_parts (test x) (number_of x == n) is in
      let same : number_of x ≡ n = eqb-true (number_of x) n parts.1 in
      and_from (test x) (nat_lt (number_of x) m) parts.0 (lt-ltb (number_of x) m (omega (arith, same, less)))

  below_below : (n m : ℕ) → n ≤ m → (x : X) → is_below number_of test n x ≡ true → is_below number_of test m x ≡ true
  below_below n m less x is =
      let parts = and_parts (test x) (nat_lt (number_of x) n) is in
      let lower : number_of x < n = ltb-true (number_of x) n parts.1 in
      and_from (test x) (nat_lt (number_of x) m) parts.0 (lt-ltb (number_of x) m (omega (arith, lower, less)))

  -- no two are the least
  not_both : (xs : List X) (n m : ℕ) → n < m → 0 < count_by (is_at number_of test n) xs → count_by (is_below number_of test m) xs ≡ 0 → ⊥
  not_both xs n m less some none =
      let within = count_wider (is_at number_of test n) (is_below number_of test m) xs (at_below n m less) in
      omega (arith, some, none, within)

  not_none : (xs : List X) (n : ℕ) → 0 < count_by (is_at number_of test n) xs → count_by test xs ≡ 0 → ⊥
  not_none xs n some none =
      let within = count_wider (is_at number_of test n) test xs (at_passes n) in
      omega (arith, some, none, within)

  pub one_least : (xs : List X) (o p : Option ℕ) → IsLeast number_of test xs o → IsLeast number_of test xs p → o ≡ p
  one_least xs None None first second = refl
  one_least xs None (Some m) first second = absurd (not_none xs m second.0 first)
  one_least xs (Some n) None first second = absurd (not_none xs n first.0 second)
  one_least xs (Some n) (Some m) first second =
      ⊎_elim (λ same. ap Some same)
      (λ apart. ⊎_elim (λ less. absurd (not_both xs n m less first.0 second.1)) (λ more. absurd (not_both xs m n more second.0 first.1)) apart)
      (cases_order n m)

  -- an element more that does not pass
  pub least_skip : (x : X) (xs : List X) (o : Option ℕ) → test x ≡ false → IsLeast number_of test xs o → IsLeast number_of test (x ∷ xs) o
  least_skip x xs None fails is = count_skip test x xs fails ∙ is
  least_skip x xs (Some n) fails is =
      let at = count_skip (is_at number_of test n) x xs (and_left (test x) (number_of x == n) fails) in
      let below = count_skip (is_below number_of test n) x xs (and_left (test x) (nat_lt (number_of x) n) fails) in
      (omega (arith, at, is.0), below ∙ is.1)

  -- an element more that passes
  here : (x : X) (xs : List X) → test x ≡ true → 0 < count_by (is_at number_of test (number_of x)) (x ∷ xs)
  here x xs passes = count_some (is_at number_of test (number_of x)) (x ∷ xs) 0 x (omega arith) (and_from _ _ passes (eq-eqb (number_of x) (number_of x) refl))

  not_lower : (x : X) (xs : List X) (n : ℕ) → n ≤ number_of x → count_by (is_below number_of test n) (x ∷ xs) ≡ count_by (is_below number_of test n) xs
  not_lower x xs n most =
      count_skip (is_below number_of test n) x xs (and_right (test x) (nat_lt (number_of x) n) (le-ltb (number_of x) n most))

  pub least_take : (x : X) (xs : List X) (o : Option ℕ) → test x ≡ true → IsLeast number_of test xs o
      → IsLeast number_of test (x ∷ xs) (Some (option_map_or (min (number_of x)) o (number_of x)))
  least_take x xs None passes is =
      let within = count_wider (is_below number_of test (number_of x)) test xs (below_passes (number_of x)) in
      let same = not_lower x xs (number_of x) (omega arith) in
      (here x xs passes, omega (arith, within, same, is))
  least_take x xs (Some m) passes is =
      let P : ℕ → Type 0 = λ n. IsLeast number_of test (x ∷ xs) (Some n) in
      ⊎_elim
      (λ less.
      let same : number_of x ≡ min (number_of x) m = omega arith in
      let none = not_lower x xs (number_of x) (omega arith) in
      let within = count_wider (is_below number_of test (number_of x)) (is_below number_of test m) xs (below_below (number_of x) m (omega (arith, less))) in
      subst P same (here x xs passes, omega (arith, none, within, is.1)))
      (λ more.
      let same : m ≡ min (number_of x) m = omega arith in
      let none = not_lower x xs m more in
      let at = count_cons (is_at number_of test m) x xs in
      subst P same (omega (arith, at, is.0), none ∙ is.1))
      (cases_lt (number_of x) m)

  -- one more at the end is as good as one more in front
  count_turned : (p : X → Bool) (x : X) (xs : List X) → count_by p (x ∷ xs) ≡ count_by p (xs ++ x ∷ [])
  count_turned p x xs =
      let first = count_cons p x xs in
      let last = sum_by_push (λ y. cond (p y) 1 0) xs x in
      omega (arith, first, last)

  pub least_turned : (x : X) (xs : List X) (o : Option ℕ) → IsLeast number_of test (x ∷ xs) o → IsLeast number_of test (xs ++ x ∷ []) o
  least_turned x xs None is = sym (count_turned test x xs) ∙ is
  least_turned x xs (Some n) is =
      let at = count_turned (is_at number_of test n) x xs in
      (omega (arith, at, is.0), sym (count_turned (is_below number_of test n) x xs) ∙ is.1)

  -- elements in front of which none passes
  front_none : (xs ys : List X) (p : X → Bool) → ((x : X) → p x ≡ true → test x ≡ true) → All (λ x. test x ≡ false) xs → count_by p (xs ++ ys) ≡ count_by p ys
  front_none xs ys p within none =
      let both = sum_by-append (λ y. cond (p y) 1 0) xs ys in
      let zero_first = count_none test xs none in
      let most = count_wider p test xs within in
      omega (arith, both, zero_first, most)

  pub least_behind : (xs ys : List X) (o : Option ℕ) → All (λ x. test x ≡ false) xs → IsLeast number_of test ys o → IsLeast number_of test (xs ++ ys) o
  least_behind xs ys None none is = front_none xs ys test (λ x passes. passes) none ∙ is
  least_behind xs ys (Some n) none is =
      let at = front_none xs ys (is_at number_of test n) (at_passes n) none in
      (omega (arith, at, is.0), front_none xs ys (is_below number_of test n) (below_passes n) none ∙ is.1)

  least_of : (x : X) (xs : List X) (b : Bool) → test x ≡ b → IsLeast number_of test xs (least (map number_of (filter test xs)))
      → IsLeast number_of test (x ∷ xs) (least (map number_of (cond b (x ∷ filter test xs) (filter test xs))))
  least_of x xs true passes is = least_take x xs (least (map number_of (filter test xs))) passes is
  least_of x xs false fails is = least_skip x xs (least (map number_of (filter test xs))) fails is

  pub least_is_least : (xs : List X) → IsLeast number_of test xs (least (map number_of (filter test xs)))
  least_is_least [] = refl
  least_is_least (x ∷ xs) = least_of x xs (test x) refl (least_is_least xs)

  -- numbers that rise by one
  abbrev pub NumberedFrom : ℕ → List X → Type 0
  NumberedFrom from xs = (k : ℕ) (d : X) → k < length xs → number_of (get_or xs k d) ≡ from + k

  numbered_rest : (from : ℕ) (x : X) (xs : List X) → NumberedFrom from (x ∷ xs) → NumberedFrom (from + 1) xs
  numbered_rest from x xs numbered k d within = numbered (suc k) d (omega (arith, within)) ∙ omega arith

  found : (from : ℕ) (x : X) (xs : List X) (b : Bool) → test x ≡ b → NumberedFrom from (x ∷ xs)
      → IsLeast number_of test xs (option_map number_of (find test xs))
      → IsLeast number_of test (x ∷ xs) (option_map number_of (cond b (Some x) (find test xs)))
  found from x xs true passes numbered is =
      let first : number_of x ≡ from + 0 = numbered 0 x (omega arith) in (
        here x xs passes,
        count_none (is_below number_of test (number_of x)) (x ∷ xs)
            (λ k d within.
            let later : number_of (get_or (x ∷ xs) k d) ≡ from + k = numbered k d within in
            and_right (test (get_or (x ∷ xs) k d)) (nat_lt (number_of (get_or (x ∷ xs) k d)) (number_of x))
            (le-ltb (number_of (get_or (x ∷ xs) k d)) (number_of x) (omega (arith, first, later)))),
      )
  found from x xs false fails numbered is = least_skip x xs (option_map number_of (find test xs)) fails is

  pub first_is_least : (from : ℕ) (xs : List X) → NumberedFrom from xs → IsLeast number_of test xs (option_map number_of (find test xs))
  first_is_least from [] numbered = refl
  first_is_least from (x ∷ xs) numbered =
      found from x xs (test x) refl numbered (first_is_least (from + 1) xs (numbered_rest from x xs numbered))
