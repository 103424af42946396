-- How many moments a window has.
use Rattle.std.proofs.Common.{◌≡◌, ◌<◌, ◌≤◌, ◌+◌, ◌-◌, ◌*◌, ◌⊎◌, inl, inr, ℕ, zero, suc, suc-le-suc, Bool, true, false, cond, List, [], ◌∷◌, length, slice_index, count_by, nat_le, nat_lt, refl, ap, ◌∙◌, arith, mul-le-mul_right, lt_of_mul-lt-mul_right}
use Rattle.std.proofs.lemmas.Bool.{leb-true, ltb-true, and_parts}
use Rattle.std.proofs.lemmas.List.Sums.{sum_by-cons}
use Rattle.throttle_spec.specs.Throttle.{Throttle, IsThrottle, Conforms, is_in, is_in_closed}

-- the last of a list that passes stands no further to the front than as many pass
record HasLast (test : ℕ → Bool) (xs : List ℕ) : Type 0 where
  at : ℕ
  below : at < length xs
  passes : test (slice_index xs at) ≡ true
  many : count_by test xs ≤ at + 1

-- from the first to the last that passes there are as many places as pass, or more
record HasSpan (test : ℕ → Bool) (xs : List ℕ) : Type 0 where
  first : ℕ
  last : ℕ
  order : first ≤ last
  below : last < length xs
  first_passes : test (slice_index xs first) ≡ true
  last_passes : test (slice_index xs last) ≡ true
  many : count_by test xs ≤ last - first + 1

counted_one : (test : ℕ → Bool) (x : ℕ) (xs : List ℕ) → test x ≡ true → count_by test (x ∷ xs) ≡ 1 + count_by test xs
counted_one test x xs is = sum_by-cons (λ y. cond (test y) 1 0) x xs ∙ ap (λ c. cond c 1 0 + count_by test xs) is

counted_none : (test : ℕ → Bool) (x : ℕ) (xs : List ℕ) → test x ≡ false → count_by test (x ∷ xs) ≡ 0 + count_by test xs
counted_none test x xs is = sum_by-cons (λ y. cond (test y) 1 0) x xs ∙ ap (λ c. cond c 1 0 + count_by test xs) is

last_later : (test : ℕ → Bool) (x : ℕ) (xs : List ℕ) (b : Bool) → test x ≡ b → HasLast test xs → HasLast test (x ∷ xs)
last_later test x xs true is found =
    record { at = suc found.at; below = suc-le-suc found.below; passes = found.passes; many = omega (arith, counted_one test x xs is, found.many) }
last_later test x xs false is found =
    record { at = suc found.at; below = suc-le-suc found.below; passes = found.passes; many = omega (arith, counted_none test x xs is, found.many) }

last_step : (test : ℕ → Bool) (x : ℕ) (xs : List ℕ) (b : Bool) → test x ≡ b → (count_by test xs ≡ 0) ⊎ HasLast test xs → (count_by test (x ∷ xs) ≡ 0) ⊎ HasLast test (x ∷ xs)
last_step test x xs b is (inr found) = inr (last_later test x xs b is found)
last_step test x xs true is (inl none) = inr (record { at = zero; below = omega arith; passes = is; many = omega (arith, counted_one test x xs is) })
last_step test x xs false is (inl none) = inl (counted_none test x xs is ∙ ap (λ n. 0 + n) none)

last_of : (test : ℕ → Bool) (xs : List ℕ) → (count_by test xs ≡ 0) ⊎ HasLast test xs
last_of test [] = inl refl
last_of test (x ∷ xs) = last_step test x xs (test x) refl (last_of test xs)

span_here : (test : ℕ → Bool) (x : ℕ) (xs : List ℕ) → test x ≡ true → (count_by test (x ∷ xs) ≡ 0) ⊎ HasLast test (x ∷ xs) → (count_by test (x ∷ xs) ≡ 0) ⊎ HasSpan test (x ∷ xs)
span_here test x xs is (inl none) = inl none
span_here test x xs is (inr found) = inr (record {
  first = zero;
  last = found.at;
  order = omega arith;
  below = found.below;
  first_passes = is;
  last_passes = found.passes;
  many = omega (arith, found.many);
})

span_later : (test : ℕ → Bool) (x : ℕ) (xs : List ℕ) → test x ≡ false → (count_by test xs ≡ 0) ⊎ HasSpan test xs → (count_by test (x ∷ xs) ≡ 0) ⊎ HasSpan test (x ∷ xs)
span_later test x xs is (inl none) = inl (counted_none test x xs is ∙ ap (λ n. 0 + n) none)
span_later test x xs is (inr found) = inr (record {
  first = suc found.first;
  last = suc found.last;
  order = suc-le-suc found.order;
  below = suc-le-suc found.below;
  first_passes = found.first_passes;
  last_passes = found.last_passes;
  many = omega (arith, counted_none test x xs is, found.many, found.order);
})

span_step : (test : ℕ → Bool) (x : ℕ) (xs : List ℕ) (b : Bool) → test x ≡ b → (count_by test xs ≡ 0) ⊎ HasSpan test xs → (count_by test (x ∷ xs) ≡ 0) ⊎ HasSpan test (x ∷ xs)
span_step test x xs true is later = span_here test x xs is (last_of test (x ∷ xs))
span_step test x xs false is later = span_later test x xs is later

span_of : (test : ℕ → Bool) (xs : List ℕ) → (count_by test xs ≡ 0) ⊎ HasSpan test xs
span_of test [] = inl refl
span_of test (x ∷ xs) = span_step test x xs (test x) refl (span_of test xs)

-- numbers: so many within less than a period, and within a period
few_within : (count quantity period burst first last : ℕ) → last + 1 ≤ first + period → 1 ≤ quantity
    → count * period + first * quantity ≤ last * quantity + burst * period → count < quantity + burst
few_within count quantity period burst first last within some fits =
    let wide : (last + 1) * quantity ≤ (first + period) * quantity = mul-le-mul_right quantity within in
    let less : count * period < (quantity + burst) * period = omega arith in
    lt_of_mul-lt-mul_right period less

some_within : (count quantity period burst first last : ℕ) → last ≤ first + period → 1 ≤ period
    → count * period + first * quantity ≤ last * quantity + burst * period → count ≤ quantity + burst
some_within count quantity period burst first last within some fits =
    let wide : last * quantity ≤ (first + period) * quantity = mul-le-mul_right quantity within in
    let less : count * period < (quantity + burst + 1) * period = omega arith in
    let below : count < quantity + burst + 1 = lt_of_mul-lt-mul_right period less in
    omega arith

-- a half-open window
pub half_open_bound : (s : Throttle) (moments : List ℕ) (from : ℕ) → IsThrottle s → Conforms s moments
    → count_by (is_in from (from + s.period)) moments < s.quantity + s.burst
half_open_bound s moments from limits all = bound_by (span_of (is_in from (from + s.period)) moments) where
  bound_by : (count_by (is_in from (from + s.period)) moments ≡ 0) ⊎ HasSpan (is_in from (from + s.period)) moments → count_by (is_in from (from + s.period)) moments < s.quantity + s.burst
  bound_by (inl none) = omega (arith, limits.some_quantity)
  bound_by (inr span) =
      let low = (and_parts (nat_le from (slice_index moments span.first)) (nat_lt (slice_index moments span.first) (from + s.period)) span.first_passes).0 in
      let high = (and_parts (nat_le from (slice_index moments span.last)) (nat_lt (slice_index moments span.last) (from + s.period)) span.last_passes).1 in
      let few = few_within (span.last - span.first + 1) s.quantity s.period s.burst (slice_index moments span.first) (slice_index moments span.last)
      (omega (arith, leb-true _ _ low, ltb-true _ _ high)) limits.some_quantity (all span.first span.last span.order span.below) in
      omega (arith, few, span.many)

-- a closed window
pub closed_bound : (s : Throttle) (moments : List ℕ) (from : ℕ) → IsThrottle s → Conforms s moments
    → count_by (is_in_closed from (from + s.period)) moments ≤ s.quantity + s.burst
closed_bound s moments from limits all = bound_by (span_of (is_in_closed from (from + s.period)) moments) where
  bound_by : (count_by (is_in_closed from (from + s.period)) moments ≡ 0) ⊎ HasSpan (is_in_closed from (from + s.period)) moments → count_by (is_in_closed from (from + s.period)) moments ≤ s.quantity + s.burst
  bound_by (inl none) = omega (arith, none)
  bound_by (inr span) =
      let low = (and_parts (nat_le from (slice_index moments span.first)) (nat_le (slice_index moments span.first) (from + s.period)) span.first_passes).0 in
      let high = (and_parts (nat_le from (slice_index moments span.last)) (nat_le (slice_index moments span.last) (from + s.period)) span.last_passes).1 in
      let few = some_within (span.last - span.first + 1) s.quantity s.period s.burst (slice_index moments span.first) (slice_index moments span.last)
      (omega (arith, leb-true _ _ low, leb-true _ _ high)) limits.some_period (all span.first span.last span.order span.below) in
      omega (arith, few, span.many)
