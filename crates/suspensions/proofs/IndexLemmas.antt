-- The index of ends: how it is searched, and what becomes of it.
use Rattle.std.proofs.Common.{◌≡◌, ◌<◌, ◌≤◌, ◌+◌, ◌-◌, ◌^◌, ℕ, suc, List, [], ◌∷◌, ◌++◌, Bool, true, false, not, cond, ◌&&◌, ◌||◌, nat_lt, ◌==◌, All, Contains, count_by, length, get_or, set, take, drop, insert, remove, Some, slice_get, refl, sym, ap, ◌∙◌, subst, ⊎_elim, arith}
use Rattle.std.specs.List.{AllWithin}
use Rattle.std.specs.List.Sorted.{IsNonDecreasingBy, IsPartitionedBy, IsPartitionPoint}
use Rattle.std.proofs.lemmas.Bool.{ltb-true, lt-ltb, eqb-true, eq-eqb, ne_eqb, or_cases, or_left, or_right, and_parts, and_from, cases_lt, cases_eq, both_ways, cond-true, cond-false}
use Rattle.std.proofs.lemmas.List.{get_or_default, get_or_append_left, get_or_push, length_push, length-set, get_or-set_same, get_or-set_other, get_or-map, length-map, same_lists}
use Rattle.std.proofs.lemmas.List.Edits.{get_or-remove_below, get_or-remove_above, length-remove}
use Rattle.std.proofs.lemmas.List.Elements.{All-append, All-cons, All-take, All-drop, All-weaker}
use Rattle.std.proofs.lemmas.List.Sums.{sum_by-insert, sum_by-remove, sum_by_push, sum_by-set}
use Rattle.std.proofs.lemmas.List.Sorted.{IsNonDecreasingBy-insert}
use Rattle.std.proofs.lemmas.Option.{slice_get-get_or}
use Rattle.policy_core.specs.declared.orders.Order.{Order}
use Rattle.policy_core.specs.declared.orders.Order.TheVariants.{Resume}
use Rattle.policy_core.specs.LiveOrders.{end_of, duration_of}
use Rattle.suspensions.specs.declared.given.Given.{Given}
use Rattle.suspensions.specs.declared.ends.Ending.{Ending}
use Rattle.suspensions.specs.Orders.{with_order, with_resumed, resumed_by}
use Rattle.suspensions.specs.Index.{rank, IsIndex, AreNumbered, stands, ending_of}
use Rattle.suspensions.specs.inside.Ends.{IsNumber, IsEndOf}
use Rattle.suspensions.proofs.CountLemmas.{count_some, count_found}

-- ends rise with ranks
pub end_rises : (e f : Ending) → IsNumber f → rank e ≤ rank f → e.end ≤ f.end
end_rises e f number le = omega (arith, number.1, le)

pub ends_rise : (ends : List Ending) → IsNonDecreasingBy rank ends → All IsNumber ends → IsNonDecreasingBy (λ e. e.end) ends
ends_rise ends ordered numbers i j d le within = end_rises (get_or ends i d) (get_or ends j d) (numbers j d within) (ordered i j d le within)

-- an end stands before another
abbrev pub comes_before : Ending → Ending → Bool
comes_before e other = nat_lt other.end e.end || (other.end == e.end && nat_lt other.number e.number)

before_by_rank : (e other : Ending) → IsNumber e → rank other < rank e → comes_before e other ≡ true
before_by_rank e other number less =
    let low : other.end ≤ e.end = end_rises other e number (omega (arith, less)) in
    ⊎_elim (λ lower. or_left (nat_lt other.end e.end) _ (lt-ltb other.end e.end lower))
    (λ upper.
    let same : other.end ≡ e.end = omega (arith, low, upper) in
    or_right (nat_lt other.end e.end) _
    (and_from (other.end == e.end) _ (eq-eqb other.end e.end same) (lt-ltb other.number e.number (omega (arith, less, same)))))
    (cases_lt other.end e.end)

rank_by_before : (e other : Ending) → IsNumber other → comes_before e other ≡ true → rank other < rank e
rank_by_before e other number before =
    ⊎_elim (λ lower. let less = ltb-true other.end e.end lower in omega (arith, less, number.1))
    (λ both.
    let parts = and_parts (other.end == e.end) (nat_lt other.number e.number) both in
    let same = eqb-true other.end e.end parts.0 in
    let less = ltb-true other.number e.number parts.1 in
    omega (arith, same, less))
    (or_cases (nat_lt other.end e.end) (other.end == e.end && nat_lt other.number e.number) before)

number_at : (ends : List Ending) (e : Ending) → All IsNumber ends → Contains ends e → IsNumber e
number_at ends e numbers held = subst IsNumber held.2 (numbers held.0 e held.1)

pub parted : (ends : List Ending) (e : Ending) → IsNonDecreasingBy rank ends → All IsNumber ends → Contains ends e → IsPartitionedBy (comes_before e) ends
parted ends e ordered numbers held i j d le within before =
    let less = rank_by_before e (get_or ends j d) (numbers j d within) before in
    let rises = ordered i j d le within in
    before_by_rank e (get_or ends i d) (number_at ends e numbers held) (omega (arith, less, rises))

abbrev ending : ℕ → ℕ → Ending
ending end number = record { end = end; number = number }

same_ending : (x e : Ending) → x.end ≡ e.end → x.number ≡ e.number → x ≡ e
same_ending x e ends numbers = ap (λ n. ending n x.number) ends ∙ ap (ending e.end) numbers

same_rank : (x e : Ending) → IsNumber x → IsNumber e → rank x ≡ rank e → x ≡ e
same_rank x e first second same =
    let ends : x.end ≡ e.end = omega (arith, end_rises x e second (omega (arith, same)), end_rises e x first (omega (arith, same))) in
    same_ending x e ends (omega (arith, ends, same))

pub first_from : (ends : List Ending) (e : Ending) (i : ℕ) → IsNonDecreasingBy rank ends → All IsNumber ends → Contains ends e
    → IsPartitionPoint (λ y. comes_before e y ≡ true) (λ y. comes_before e y ≡ false) ends i
    → (i < length ends) × (slice_get ends i ≡ Some e)
first_from ends e i ordered numbers held point =
    let number = number_at ends e numbers held in
    let behind : i ≤ held.0 =
    ⊎_elim
    (λ (ahead : held.0 < i).
    let less = rank_by_before e (get_or ends held.0 e) (numbers held.0 e held.1) (point.0 held.0 e (omega arith) ahead) in
    let same = ap rank held.2 in
    absurd (omega (arith, less, same)))
    (λ (behind : i ≤ held.0). behind)
    (cases_lt held.0 i) in
    let within : i < length ends = omega (arith, behind, held.1) in
    let rises : rank (get_or ends i e) ≤ rank (get_or ends held.0 e) = ordered i held.0 e behind held.1 in
    let most : rank (get_or ends i e) ≤ rank e = omega (arith, rises, ap rank held.2) in
    let here : IsNumber (get_or ends i e) = numbers i e within in
    let least : rank e ≤ rank (get_or ends i e) =
    ⊎_elim
    (λ (less : rank (get_or ends i e) < rank e).
    absurd (both_ways _ (point.1 i e (omega arith) within) (before_by_rank e (get_or ends i e) number less)))
    (λ (least : rank e ≤ rank (get_or ends i e)). least)
    (cases_lt (rank (get_or ends i e)) (rank e)) in
    let same : get_or ends i e ≡ e = same_rank (get_or ends i e) e here number (omega (arith, most, least)) in
    (within, slice_get-get_or ends i e within ∙ ap Some same)

-- numbers of the index are numbers
pub index_numbers : (book : List Given) (ends : List Ending) → IsIndex book ends → All IsNumber ends
index_numbers book ends is k d within =
    let range = is.within k d within in
    (range.0, omega (arith, range.1, is.few))

-- one end more
new_given : ℕ → Order → ℕ → Given
new_given at order number = record { number = number; at = at; order = order; resumed = false }

numbered_more : (book : List Given) (g : Given) → g.number ≡ length book + 1 → AreNumbered book → AreNumbered (book ++ g ∷ [])
numbered_more book g number numbered k d within =
    let long = length_push book g in
    ⊎_elim
    (λ less. ap (λ x. x.number) (get_or_append_left book (g ∷ []) d k less) ∙ numbered k d less)
    (λ more.
    let last : length book ≡ k = omega (arith, long, within, more) in
    ap (λ x. x.number) (get_or_push book g d k last) ∙ number ∙ ap (λ n. n + 1) last)
    (cases_lt k (length book))

below_new : (e other : Ending) → other.end ≤ e.end → other.number < e.number → rank other ≤ rank e
below_new e other ends numbers = omega (arith, ends, numbers)

above_new : (e other : Ending) → IsNumber e → e.end < other.end → rank e ≤ rank other
above_new e other number ends = omega (arith, number.1, ends)

pub added : (book : List Given) (ends : List Ending) (at : ℕ) (order : Order) (place : ℕ) (e : Ending)
    → e.end ≡ end_of at (duration_of order) → e.number ≡ length book + 1 → length book + 1 < 2 ^ 32 → place ≤ length ends
    → AllWithin (λ other. other.end ≤ e.end) ends 0 place → AllWithin (λ other. e.end < other.end) ends place (length ends)
    → IsIndex book ends → IsIndex (with_order at order book) (insert ends place e)
added book ends at order place e end number room bound over later is =
    let g : Given = record { number = length book + 1; at = at; order = order; resumed = false } in
    let same : e ≡ ending_of g = same_ending e (ending_of g) end number in
    let long = length_push book g in
    let Within : ℕ → Ending → Type 0 = λ n x. (1 ≤ x.number) × (x.number ≤ n) in
    let wider : All (Within (length (book ++ g ∷ []))) ends =
    All-weaker (Within (length book)) (Within (length (book ++ g ∷ []))) (λ x range. (range.0, omega (arith, range.1, long))) ends is.within in
    record {
      numbered = numbered_more book g refl is.numbered;
      few = omega (arith, long, room);
      within =
          All-append (Within (length (book ++ g ∷ []))) (take place ends) (e ∷ drop place ends)
          (All-take (Within (length (book ++ g ∷ []))) place ends wider)
          (All-cons (Within (length (book ++ g ∷ []))) e (drop place ends) (omega (arith, number), omega (arith, number, long))
          (All-drop (Within (length (book ++ g ∷ []))) place ends wider));
      counts = λ test.
          sum_by-insert (λ x. cond (test x) 1 0) ends place e
          ∙ ap (λ n. n + cond (test e) 1 0) (is.counts test)
          ∙ ap (λ x. count_by (stands test) book + cond (test x) 1 0) same
          ∙ sym (sum_by_push (λ x. cond (stands test x) 1 0) book g);
      ordered =
          IsNonDecreasingBy-insert rank ends place e is.ordered bound
          (λ k d less.
          let within : k < length ends = omega (arith, less, bound) in
          below_new e (get_or ends k d) (over k d (omega arith) less) (omega (arith, (is.within k d within).1, number)))
          (λ k d more within. above_new e (get_or ends k d) (omega (arith, number), omega (arith, number, room)) (later k d more within));
    }

-- one end less
pub ordered_less : (ends : List Ending) (i : ℕ) → i < length ends → IsNonDecreasingBy rank ends → IsNonDecreasingBy rank (remove ends i)
ordered_less ends i within ordered j k d le less =
    let long = length-remove ends i within in
    ⊎_elim
    (λ k_below.
    rw (get_or-remove_below ends i d j (omega (arith, le, k_below)) within, get_or-remove_below ends i d k k_below within)
    (ordered j k d le (omega (arith, k_below, within))))
    (λ k_above.
    ⊎_elim
    (λ j_below.
    rw (get_or-remove_below ends i d j j_below within, get_or-remove_above ends i d k k_above within)
    (ordered j (k + 1) d (omega (arith, le)) (omega (arith, less, long))))
    (λ j_above.
    rw (get_or-remove_above ends i d j j_above within, get_or-remove_above ends i d k k_above within)
    (ordered (j + 1) (k + 1) d (omega (arith, le)) (omega (arith, less, long))))
    (cases_lt j i))
    (cases_lt k i)

numbered_set : (book : List Given) (k : ℕ) (g : Given) → k < length book → g.number ≡ k + 1 → AreNumbered book → AreNumbered (set book k g)
numbered_set book k g within number numbered j d less =
    let long = length-set book k g in
    ⊎_elim
    (λ same. ap (λ i. (get_or (set book k g) i d).number) same ∙ ap (λ x. x.number) (get_or-set_same book k g d within) ∙ number ∙ ap (λ i. i + 1) (sym same))
    (λ other. ap (λ x. x.number) (get_or-set_other book k j g d other) ∙ numbered j d (omega (arith, less, long)))
    (cases_eq j k)

test_standing : (test : Ending → Bool) (g : Given) → g.resumed ≡ false → stands test g ≡ test (ending_of g)
test_standing test g standing = ap (λ b. not b && test (ending_of g)) standing

pub taken : (book : List Given) (ends : List Ending) (k i : ℕ) (g : Given) (e : Ending)
    → k < length book → get_or book k g ≡ g → g.resumed ≡ false → i < length ends → get_or ends i e ≡ e → e ≡ ending_of g
    → IsIndex book ends → IsIndex (set book k (record g { resumed = true })) (remove ends i)
taken book ends k i g e within read standing less here same is =
    let over : Given = record g { resumed = true } in
    let long = length-set book k over in
    let Within : ℕ → Ending → Type 0 = λ n x. (1 ≤ x.number) × (x.number ≤ n) in
    let kept : All (Within (length book)) (remove ends i) =
    All-append (Within (length book)) (take i ends) (drop (suc i) ends) (All-take (Within (length book)) i ends is.within)
    (All-drop (Within (length book)) (suc i) ends is.within) in
    record {
      numbered = numbered_set book k over within (ap (λ x. x.number) (sym read) ∙ is.numbered k g within) is.numbered;
      few = omega (arith, long, is.few);
      within = subst (λ n. All (Within n) (remove ends i)) (sym long) kept;
      counts = λ test.
          let first : count_by test (remove ends i) + cond (test (get_or ends i e)) 1 0 ≡ count_by test ends =
          sum_by-remove (λ x. cond (test x) 1 0) ends i e less in
          let second : count_by (stands test) (set book k over) + cond (stands test (get_or book k g)) 1 0 ≡ count_by (stands test) book + 0 =
          sum_by-set (λ x. cond (stands test x) 1 0) book k over g within in
          let one : ◌≡◌ {A = ℕ} (cond (test (get_or ends i e)) 1 0) (cond (test (ending_of g)) 1 0) = ap (λ x. cond (test x) 1 0) (here ∙ same) in
          let other : ◌≡◌ {A = ℕ} (cond (stands test (get_or book k g)) 1 0) (cond (test (ending_of g)) 1 0) =
          ap (λ x. cond (stands test x) 1 0) read ∙ ap (λ b. cond b 1 0) (test_standing test g standing) in
          let all = is.counts test in
          omega (arith, first, second, one, other, all);
      ordered = ordered_less ends i less is.ordered;
    }

-- the end of an order that stands is in the index
pub end_held : (book : List Given) (ends : List Ending) (number : ℕ) (e : Ending) → IsIndex book ends → IsEndOf book number e → Contains ends e
end_held book ends number e is end =
    let is_same : Ending → Bool = λ x. x.end == e.end && x.number == e.number in
    let k = number - 1 in
    let d = new_given 0 (Resume 0) 0 in
    let g = get_or book k d in
    let inside : k < length book = omega (arith, end.0, end.1) in
    let same : is_same (ending_of g) ≡ true =
    and_from _ _ (eq-eqb (ending_of g).end e.end (ap (λ x. x.end) (sym (end.2 d).1))) (eq-eqb (ending_of g).number e.number (ap (λ x. x.number) (sym (end.2 d).1))) in
    let some : 0 < count_by (stands is_same) book = count_some (stands is_same) book k d inside (test_standing is_same g (end.2 d).0 ∙ same) in
    let here = count_found is_same ends e (subst (λ n. 0 < n) (sym (is.counts is_same)) some) in
    let x = get_or ends here.0 e in
    let parts = and_parts (x.end == e.end) (x.number == e.number) here.2 in
    (here.0, here.1, same_ending x e (eqb-true x.end e.end parts.0) (eqb-true x.number e.number parts.1))

-- the order at a place is that of its number
pub set_resumed : (book : List Given) (k : ℕ) (g : Given) → k < length book → get_or book k g ≡ g → AreNumbered book
    → set book k (record g { resumed = true }) ≡ with_resumed (k + 1) book
set_resumed book k g within read numbered =
    let over : Given = record g { resumed = true } in
    let long = length-set book k over in
    let number : g.number ≡ k + 1 = ap (λ x. x.number) (sym read) ∙ numbered k g within in
    same_lists (set book k over) (with_resumed (k + 1) book) (long ∙ sym (length-map book (resumed_by (k + 1))))
    (λ j d less.
    let inside : j < length book = omega (arith, less, long) in
    let x = get_or book j d in
    let mapped : get_or (with_resumed (k + 1) book) j d ≡ resumed_by (k + 1) x = get_or-map (resumed_by (k + 1)) book j d d inside in
    ⊎_elim
    (λ (same : j ≡ k).
    let there : x ≡ g = ap (λ i. get_or book i d) same ∙ get_or_default book k d g within ∙ read in
    ap (λ i. get_or (set book k over) i d) same ∙ get_or-set_same book k over d within
    ∙ sym (cond-true (g.number == k + 1) (record g { resumed = true }) g (eq-eqb g.number (k + 1) number))
    ∙ ap (resumed_by (k + 1)) (sym there) ∙ sym mapped)
    (λ (other : j ≡ k → ⊥).
    let apart : x.number ≡ k + 1 → ⊥ = λ is. other (omega (arith, is, numbered j d inside)) in
    get_or-set_other book k j over d other
    ∙ sym (cond-false (x.number == k + 1) (record x { resumed = true }) x (ne_eqb x.number (k + 1) apart)) ∙ sym mapped)
    (cases_eq j k))
