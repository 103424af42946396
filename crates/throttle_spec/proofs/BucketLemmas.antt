-- The greatest reach decides as all pairs do.
use Rattle.std.proofs.Common.{◌≡◌, ◌<◌, ◌≤◌, ◌↔◌, ◌+◌, ◌-◌, ◌*◌, ◌⊎◌, inl, inr, ℕ, zero, suc, min, max, Bool, true, false, if◌then◌else◌, subst, List, [], ◌∷◌, ◌++◌, length, slice_index, Decides, refl, sym, ap, ◌∙◌, arith, length-append, mul-le-mul_right, eq-or-lt_of_le}
use Rattle.std.proofs.lemmas.List.{get_or_append_left, get_or_at}
use Rattle.std.proofs.lemmas.Bool.{cases_lt, leb-true, le-leb}
use Rattle.std.proofs.lemmas.Bool.Decides.{Decides-below_and, Decides-like}
use Rattle.kumo_base.specs.Moment.{clamped}
use Rattle.kumo_base.specs.declared.moment.TheConstants.{LAST_MOMENT}
use Rattle.throttle_spec.specs.Throttle.{Throttle, IsThrottle, PairFits, Conforms, pair_fits, all_below, conforms, first_from, least_admitted, IsLeastAdmitted}
use Rattle.throttle_spec.specs.Bucket.{BucketState, reach, IsGreatestReach, StandsFor, IsAdmitted}

-- one more moment behind others
at_front : (moments : List ℕ) (t i : ℕ) → i < length moments → slice_index (moments ++ t ∷ []) i ≡ slice_index moments i
at_front moments t i below = get_or_append_left moments (t ∷ []) 0 i below

at_end : (moments : List ℕ) (t n : ℕ) → length moments ≡ n → slice_index (moments ++ t ∷ []) n ≡ t
at_end moments t n is = get_or_at moments t [] 0 n is

one_longer : (moments : List ℕ) (t : ℕ) → length (moments ++ t ∷ []) ≡ length moments + 1
one_longer moments t = length-append moments (t ∷ [])

-- what one pair that ends with the new moment needs
reach_fits : (k period first number room : ℕ) → first + k * period ≤ number → number + period ≤ room → (k + 1) * period + first ≤ room
reach_fits k period first number room reaches has = omega arith

fits_reach : (k period first room : ℕ) → (k + 1) * period + first ≤ room → (first + k * period) + period ≤ room
fits_reach k period first room fits = omega arith

burst_covers : (burst period : ℕ) → 1 ≤ burst → 1 * period ≤ burst * period
burst_covers burst period some = mul-le-mul_right period some

alone_fits : (n burst period now : ℕ) → 1 ≤ burst → (n - n + 1) * period + now ≤ now + burst * period
alone_fits n burst period now some =
    let covered = burst_covers burst period some in
    let alone : n - n + 1 ≡ 1 = omega arith in
    rw alone (omega (arith, covered))

-- the pairs that end with the new moment
ends_fit : (s : Throttle) (moments : List ℕ) (t number i n : ℕ) → length moments ≡ n → 1 ≤ s.burst → IsGreatestReach s moments number
    → number + s.period ≤ t * s.quantity + s.burst * s.period → i ≤ n → PairFits s (moments ++ t ∷ []) i n
ends_fit s moments t number i n long some greatest room order =
    ends_by (eq-or-lt_of_le order) where
      ends_by : (i ≡ n) ⊎ (i < n) → PairFits s (moments ++ t ∷ []) i n
      ends_by (inl same) = rw (same, at_end moments t n long) (alone_fits n s.burst s.period (t * s.quantity) some)
      ends_by (inr below) =
          rw (at_end moments t n long, at_front moments t i (rw long below))
          (reach_fits (n - i) s.period (slice_index moments i * s.quantity) number (t * s.quantity + s.burst * s.period) (rw (sym long) (greatest.each i (rw long below))) room)

-- moments conform with one more after them where there is room for it
pub conforms_with : (s : Throttle) (moments : List ℕ) (t number : ℕ) → 1 ≤ s.burst → Conforms s moments → IsGreatestReach s moments number
    → number + s.period ≤ t * s.quantity + s.burst * s.period → Conforms s (moments ++ t ∷ [])
conforms_with s moments t number some before greatest room i j order below =
    fits_by (cases_lt j (length moments)) where
      fits_by : (j < length moments) ⊎ (length moments ≤ j) → PairFits s (moments ++ t ∷ []) i j
      fits_by (inl inside) = rw (at_front moments t j inside, at_front moments t i (omega arith)) (before i j order inside)
      fits_by (inr past) = ends_fit s moments t number i j (omega (arith, one_longer moments t)) some greatest room order

-- and nowhere else
pub room_for : (s : Throttle) (moments : List ℕ) (t number : ℕ) → 1 ≤ s.burst → IsGreatestReach s moments number
    → Conforms s (moments ++ t ∷ []) → number + s.period ≤ t * s.quantity + s.burst * s.period
room_for s moments t number some greatest all = room_by greatest.attained where
  room_by : ((moments ≡ []) × (number ≡ 0)) ⊎ ((i : ℕ) × (i < length moments) × (number ≡ reach s moments i))
      → number + s.period ≤ t * s.quantity + s.burst * s.period
  room_by (inl none) = omega (arith, none.1, burst_covers s.burst s.period some)
  room_by (inr found) =
      let fits = all found.0 (length moments) (omega arith) (omega (arith, one_longer moments t)) in
      let plain = rw (at_end moments t (length moments) refl, at_front moments t found.0 found.1) at fits in
      rw found.2 (fits_reach (length moments - found.0) s.period (slice_index moments found.0 * s.quantity) (t * s.quantity + s.burst * s.period) plain)

longer : (n i long period : ℕ) → long ≡ n + 1 → i ≤ n → (long - i) * period ≡ (n - i) * period + period
longer n i long period is within =
    let more : long - i ≡ (n - i) + 1 = omega arith in
    rw more (omega arith)

-- how far the moments reach with one more after them
pub reach_more : (s : Throttle) (moments : List ℕ) (t number : ℕ) → IsGreatestReach s moments number
    → IsGreatestReach s (moments ++ t ∷ []) (max number (t * s.quantity) + s.period)
reach_more s moments t number greatest =
    record { each = each; attained = attained_by (cases_lt number (t * s.quantity)) greatest.attained } where
      n : ℕ
      n = length moments

      front_reach : (i : ℕ) → i < length moments → reach s (moments ++ t ∷ []) i ≡ reach s moments i + s.period
      front_reach i below =
          rw (at_front moments t i below, longer (length moments) i (length (moments ++ t ∷ [])) s.period (one_longer moments t) (omega arith)) (omega arith)

      end_reach : (i : ℕ) → length moments ≡ i → reach s (moments ++ t ∷ []) i ≡ t * s.quantity + s.period
      end_reach i is =
          let one : length (moments ++ t ∷ []) - i ≡ 1 = omega (arith, one_longer moments t) in
          rw (at_end moments t i is, one) (omega arith)

      each_by : (i : ℕ) → i < length (moments ++ t ∷ []) → (i < length moments) ⊎ (length moments ≤ i)
          → reach s (moments ++ t ∷ []) i ≤ max number (t * s.quantity) + s.period
      each_by i below (inl inside) = omega (arith, front_reach i inside, greatest.each i inside)
      each_by i below (inr past) = omega (arith, end_reach i (omega (arith, one_longer moments t)))

      each : (i : ℕ) → i < length (moments ++ t ∷ []) → reach s (moments ++ t ∷ []) i ≤ max number (t * s.quantity) + s.period
      each i below = each_by i below (cases_lt i (length moments))

      attained_by : (number < t * s.quantity) ⊎ (t * s.quantity ≤ number) → ((moments ≡ []) × (number ≡ 0)) ⊎ ((i : ℕ) × (i < length moments) × (number ≡ reach s moments i))
          → ((moments ++ t ∷ [] ≡ []) × (max number (t * s.quantity) + s.period ≡ 0)) ⊎ ((i : ℕ) × (i < length (moments ++ t ∷ [])) × (max number (t * s.quantity) + s.period ≡ reach s (moments ++ t ∷ []) i))
      attained_by (inl later) found = inr (length moments, omega (arith, one_longer moments t), omega (arith, end_reach (length moments) refl))
      attained_by (inr before) (inl none) = inr (length moments, omega (arith, one_longer moments t), omega (arith, none.1, end_reach (length moments) refl))
      attained_by (inr before) (inr found) = inr (found.0, omega (arith, found.1, one_longer moments t), omega (arith, found.2, front_reach found.0 found.1))

-- a bucket that takes a moment which is admitted
pub stands_more : (s : Throttle) (moments : List ℕ) (t number : ℕ) → StandsFor (record { throttle = s; arrival = number }) moments
    → number + s.period ≤ t * s.quantity + s.burst * s.period
    → StandsFor (record { throttle = s; arrival = max number (t * s.quantity) + s.period }) (moments ++ t ∷ [])
stands_more s moments t number stands room = record {
  limits = stands.limits;
  conforms = conforms_with s moments t number stands.limits.some_burst stands.conforms stands.greatest room;
  greatest = reach_more s moments t number stands.greatest;
}

pub stands_for_none : (s : Throttle) → IsThrottle s → StandsFor (record { throttle = s; arrival = 0 }) []
stands_for_none s limits = record {
  limits = limits;
  conforms = λ i j order below. absurd (omega arith);
  greatest = record { each = λ i below. absurd (omega arith); attained = inl (refl, refl) };
}

-- the tests say what the facts do
pair_decides : (s : Throttle) (moments : List ℕ) (i j : ℕ) → Decides (pair_fits s moments i j) (PairFits s moments i j)
pair_decides s moments i j = (leb-true _ _, le-leb _ _)

ends_decide : (s : Throttle) (moments : List ℕ) (j n : ℕ) → Decides (all_below (λ i. pair_fits s moments i j) n) ((i : ℕ) → i < n → PairFits s moments i j)
ends_decide s moments j n =
    Decides-below_and (λ i. pair_fits s moments i j) (λ i. PairFits s moments i j) (all_below (λ i. pair_fits s moments i j)) (λ i. pair_decides s moments i j) refl (λ _. refl) n

pub conforms_decides : (s : Throttle) (moments : List ℕ) → Decides (conforms s moments) (Conforms s moments)
conforms_decides s moments =
    Decides-like (conforms s moments) (λ h i j order below. h j below i (omega arith)) (λ h j below i order. h i j (omega arith) below)
    (Decides-below_and (λ j. all_below (λ i. pair_fits s moments i j) (j + 1)) (λ j. (i : ℕ) → i < j + 1 → PairFits s moments i j)
    (all_below (λ j. all_below (λ i. pair_fits s moments i j) (j + 1))) (λ j. ends_decide s moments j (j + 1)) refl (λ _. refl) (length moments))

-- what the first number that passes a test is
record FirstFrom (test : ℕ → Bool) (t last r : ℕ) : Type 0 where
  from : t ≤ r
  within : r ≤ last
  none_before : (v : ℕ) → t ≤ v → v < r → test v ≡ false
  passes : (test r ≡ true) ⊎ (r ≡ last)

first_later : (test : ℕ → Bool) (t last r : ℕ) → test t ≡ false → FirstFrom test (t + 1) last r → FirstFrom test t last r
first_later test t last r fails first = record {
  from = omega (arith, first.from);
  within = first.within;
  none_before = λ v from before. none_by v from before (eq-or-lt_of_le from);
  passes = first.passes;
} where
  none_by : (v : ℕ) → t ≤ v → v < r → (t ≡ v) ⊎ (t < v) → test v ≡ false
  none_by v from before (inl same) = ap test (sym same) ∙ fails
  none_by v from before (inr more) = first.none_before v (omega arith) before

first_step : (test : ℕ → Bool) (t last r : ℕ) (b : Bool) → t < last → test t ≡ b → FirstFrom test (t + 1) last r → FirstFrom test t last (if b then t else r)
first_step test t last r true below is first = record {
  from = omega arith;
  within = omega arith;
  none_before = λ v from before. absurd (omega arith);
  passes = inl is;
}
first_step test t last r false below is first = first_later test t last r is first

first_says : (test : ℕ → Bool) (steps t last : ℕ) → t + steps ≡ last → FirstFrom test t last (first_from test steps t)
unfolding first_from
first_says test zero t last is = record {
  from = omega arith;
  within = omega arith;
  none_before = λ v from before. absurd (omega arith);
  passes = inr (omega arith);
}
first_says test (suc steps) t last is =
    first_step test t last (first_from test steps (t + 1)) (test t) (omega arith) refl (first_says test steps (t + 1) last (omega arith))

-- `least_admitted` is least and admitted
pub least_says : (s : Throttle) (moments : List ℕ) (t : ℕ) → IsLeastAdmitted s moments t (least_admitted s moments t)
least_says s moments t =
    let first = first_says (λ u. conforms s (moments ++ u ∷ [])) (LAST_MOMENT - clamped t) (clamped t) LAST_MOMENT (omega arith) in
    record {
      from = first.from;
      within = first.within;
      none_before = λ v from before h. absurd (differ v (first.none_before v from before) ((conforms_decides s (moments ++ v ∷ [])).1 h));
      admitted = admitted_by _ first.passes;
    } where
      differ : (v : ℕ) → conforms s (moments ++ v ∷ []) ≡ false → conforms s (moments ++ v ∷ []) ≡ true → ⊥
      differ v is_no is_yes = cc

      admitted_by : (r : ℕ) → (conforms s (moments ++ r ∷ []) ≡ true) ⊎ (r ≡ LAST_MOMENT) → Conforms s (moments ++ r ∷ []) ⊎ (r ≡ LAST_MOMENT)
      admitted_by r (inl passes) = inl ((conforms_decides s (moments ++ r ∷ [])).0 passes)
      admitted_by r (inr last) = inr last

not_before : (s : Throttle) (moments : List ℕ) (t u v : ℕ) → IsLeastAdmitted s moments t u → IsLeastAdmitted s moments t v → u < v → ⊥
not_before s moments t u v first other before = before_by first.admitted where
  before_by : Conforms s (moments ++ u ∷ []) ⊎ (u ≡ LAST_MOMENT) → ⊥
  before_by (inl fits) = other.none_before u first.from before fits
  before_by (inr last) = absurd (omega (arith, other.within))

-- there is one such moment
pub one_least : (s : Throttle) (moments : List ℕ) (t u v : ℕ) → IsLeastAdmitted s moments t u → IsLeastAdmitted s moments t v → u ≡ v
one_least s moments t u v first other = by (cases_lt u v) (cases_lt v u) where
  by : (u < v) ⊎ (v ≤ u) → (v < u) ⊎ (u ≤ v) → u ≡ v
  by (inl less) more = absurd (not_before s moments t u v first other less)
  by (inr _) (inl more) = absurd (not_before s moments t v u other first more)
  by (inr a) (inr b) = omega arith

-- where there is room
pub record FirstRoom (s : Throttle) (number w : ℕ) : Type 0 where
  pub within : w ≤ LAST_MOMENT
  pub before : (v : ℕ) → v + 1 ≤ w → v * s.quantity + s.burst * s.period + 1 ≤ number + s.period
  pub room : w + 1 ≤ LAST_MOMENT → number + s.period ≤ w * s.quantity + s.burst * s.period

pub first_room_is : (s : Throttle) (moments : List ℕ) (number t w : ℕ) → StandsFor (record { throttle = s; arrival = number }) moments
    → FirstRoom s number w → max w (min t LAST_MOMENT) ≡ least_admitted s moments t
first_room_is s moments number t w stands first =
    one_least s moments t (max w (min t LAST_MOMENT)) (least_admitted s moments t) (record {
      from = omega arith;
      within = omega (arith, first.within);
      none_before = none_before;
      admitted = admitted_by (cases_lt w LAST_MOMENT);
    }) (least_says s moments t) where
      none_before : (v : ℕ) → clamped t ≤ v → v < max w (min t LAST_MOMENT) → Conforms s (moments ++ v ∷ []) → ⊥
      none_before v from before h =
          absurd (omega (arith, room_for s moments v number stands.limits.some_burst stands.greatest h, first.before v (omega arith)))

      admitted_by : (w < LAST_MOMENT) ⊎ (LAST_MOMENT ≤ w) → Conforms s (moments ++ max w (min t LAST_MOMENT) ∷ []) ⊎ (max w (min t LAST_MOMENT) ≡ LAST_MOMENT)
      admitted_by (inl below) =
          inl (conforms_with s moments (max w (min t LAST_MOMENT)) number stands.limits.some_burst stands.conforms stands.greatest
          (omega (arith, first.room (omega arith), mul-le-mul_right {m = w} {n = max w (min t LAST_MOMENT)} s.quantity (omega arith))))
      admitted_by (inr last) = inr (omega (arith, first.within))

-- rounding up to whole milliseconds
pub before_rounded : (v first short quantity : ℕ) → v + 1 ≤ first → first * quantity < short + quantity → v * quantity < short
before_rounded v first short quantity below rounds =
    let less : (v + 1) * quantity ≤ first * quantity = mul-le-mul_right quantity below in
    omega arith

same_number : (s : Throttle) (moments : List ℕ) (m n : ℕ) → IsGreatestReach s moments m → IsGreatestReach s moments n → m ≤ n
same_number s moments m n one other = by one.attained where
  by : ((moments ≡ []) × (m ≡ 0)) ⊎ ((i : ℕ) × (i < length moments) × (m ≡ reach s moments i)) → m ≤ n
  by (inl none) = omega (arith, none.1)
  by (inr found) = omega (arith, found.2, other.each found.0 found.1)

pub one_state : (a b : BucketState) (moments : List ℕ) → a.throttle ≡ b.throttle → StandsFor a moments → StandsFor b moments → a ≡ b
one_state a b moments same one other =
    let on_b : IsGreatestReach b.throttle moments a.arrival = subst (λ s. IsGreatestReach s moments a.arrival) same one.greatest in
    let number : a.arrival ≡ b.arrival = omega (arith, same_number b.throttle moments a.arrival b.arrival on_b other.greatest, same_number b.throttle moments b.arrival a.arrival other.greatest on_b) in
    λ i. record { throttle = same i; arrival = number i }

pub room_decides : (b : BucketState) (moments : List ℕ) (t : ℕ) → StandsFor b moments → (IsAdmitted b t ↔ Conforms b.throttle (moments ++ clamped t ∷ []))
unfolding IsAdmitted
room_decides b moments t stands = (
  λ room. conforms_with b.throttle moments (clamped t) b.arrival stands.limits.some_burst stands.conforms stands.greatest room,
  λ all. room_for b.throttle moments (clamped t) b.arrival stands.limits.some_burst stands.greatest all,
)
