-- The first text past the limit, in the sorted places of all texts.
use Rattle.std.proofs.Common.{◌≡◌, ◌∙◌, ◌+◌, ◌<◌, ◌≤◌, ℕ, List, [], ◌∷◌, length, get_or, map, false, Option, Ordering, Less, Equal, Greater, nat_cmp, is_lt, refl, sym, ap, arith}
use Rattle.std.specs.Cmp.Lexicographic.{slice_cmp}
use Rattle.std.specs.List.{filter}
use Rattle.std.specs.List.Sorted.{IsPermutation, IsSortedBy}
use Rattle.std.specs.Ordering.{ordering_then}
use Rattle.std.proofs.lemmas.List.Sorted.{IsPermutation-map, ranks_by, sorted_far, length_permutation}
use Rattle.std.proofs.lemmas.List.{length-map}
use Rattle.std.proofs.Math.ListN.{get_or-map}
use Rattle.policy_toml.specs.declared.fault.Fault.{Fault}
use Rattle.policy_toml.specs.Places.{fault_cmp, first_of}
use Rattle.shaping_policy.specs.declared.patterns.TheConstants.{PATTERN_COUNT_LIMIT}
use Rattle.shaping_policy.specs.declared.text_places.TextPlace.{TextPlace}
use Rattle.shaping_policy.specs.Faults.{faults_of_many}
use Rattle.shaping_policy.specs.inside.TextPlaces.{seen_place}
use Rattle.shaping_policy.proofs.Firsts.{first_by, first_past, none_past, has_more_upto}
use Rattle.policy_toml.proofs.FirstLemmas.{fault_cmp_total}
use Rattle.shaping_policy.proofs.FaultOrder.{comes_before, comes_before_order, comes_before_exact, first_of-by}

-- the order of the places
abbrev pub place_cmp : TextPlace → TextPlace → Ordering
place_cmp a b = ordering_then (slice_cmp nat_cmp a.table.now b.table.now) (ordering_then (nat_cmp a.number b.number) (nat_cmp a.item b.item))

then_none : (o : Ordering) → ordering_then o Equal ≡ o
then_none Less = refl
then_none Equal = refl
then_none Greater = refl

-- is that of the faults there
seen_cmp : (a b : TextPlace) → fault_cmp (seen_place a) (seen_place b) ≡ place_cmp a b
seen_cmp a b = rw (then_none (nat_cmp a.item b.item)) refl

seen_far : (sorted : List TextPlace) → IsSortedBy (λ a b. is_lt (place_cmp a b)) sorted → (d : TextPlace) (i j : ℕ) → i ≤ j → j < length sorted
    → comes_before (seen_place (get_or sorted j d)) (seen_place (get_or sorted i d)) ≡ false
unfolding comes_before
seen_far sorted up d i j le within =
    sorted_far (λ a b. is_lt (fault_cmp (seen_place a) (seen_place b))) (ranks_by fault_cmp_total seen_place) sorted
    (λ k e low more. rw (seen_cmp (get_or sorted (k + 1) e) (get_or sorted k e)) (up k e low more)) i j d le within

many_by : (places : List Fault) → faults_of_many places ≡ filter (has_more_upto comes_before places PATTERN_COUNT_LIMIT) places
unfolding faults_of_many comes_before
many_by places = refl

-- where there are more places than the limit, the one behind so many is the first text that is one too many
pub past_limit : (best : Option Fault) (places sorted : List TextPlace) → IsPermutation places sorted
    → IsSortedBy (λ a b. is_lt (place_cmp a b)) sorted → (d : TextPlace) → PATTERN_COUNT_LIMIT < length sorted
    → first_of best (faults_of_many (map seen_place places)) ≡ first_of best (seen_place (get_or sorted PATTERN_COUNT_LIMIT d) ∷ [])
past_limit best places sorted moved up d within =
    let moved : IsPermutation (map seen_place places) (map seen_place sorted) = IsPermutation-map seen_place places sorted moved in
    let same : length (map seen_place sorted) ≡ length sorted = length-map sorted seen_place in
    let below : PATTERN_COUNT_LIMIT < length (map seen_place sorted) = rw same within in
    rw (many_by (map seen_place places), first_of-by best) (
    first_past comes_before comes_before_order comes_before_exact (map seen_place places) (map seen_place sorted) moved (seen_place d)
    (λ i j le under. rw (get_or-map seen_place sorted j d, get_or-map seen_place sorted i d) (seen_far sorted up d i j le (omega arith)))
    PATTERN_COUNT_LIMIT below best
    ∙ ap (λ f. first_by comes_before best (f ∷ [])) (get_or-map seen_place sorted PATTERN_COUNT_LIMIT d)
    ∙ sym (first_of-by best (seen_place (get_or sorted PATTERN_COUNT_LIMIT d) ∷ [])))

-- else none is
pub within_limit : (places sorted : List TextPlace) → IsPermutation places sorted → length sorted ≤ PATTERN_COUNT_LIMIT
    → faults_of_many (map seen_place places) ≡ []
within_limit places sorted moved short =
    rw (many_by (map seen_place places)) (none_past comes_before (map seen_place places) PATTERN_COUNT_LIMIT
    (omega (arith, length-map places seen_place, length_permutation places sorted moved)))
