-- What the index answers of the orders.
use Rattle.std.proofs.Common.{◌≡◌, ◌<◌, ◌≤◌, ◌+◌, ◌-◌, ℕ, List, Bool, true, false, not, ◌&&◌, nat_lt, nat_le, ◌==◌, All, count_by, length, get_or, take, drop, filter, find, map, min, Option, Some, None, option_map, slice_get, refl, sym, ap, ◌∙◌, subst, ⊎_elim, arith}
use Rattle.std.specs.List.{AllWithin}
use Rattle.std.specs.Option.{option_map_or}
use Rattle.std.specs.List.Sorted.{IsNonDecreasingBy}
use Rattle.std.proofs.lemmas.Bool.{and_left, and_right, and_from, le-ltb, lt-ltb, cases_lt, cases_eq, cases_Bool, ne_eqb, eq-eqb}
use Rattle.std.proofs.lemmas.List.{get_or_default, get_or-drop, get_or-take, length-drop, length-take, take-append-drop, take_more, take_rest, take_all}
use Rattle.std.proofs.lemmas.List.Elements.{filter_agree}
use Rattle.std.proofs.lemmas.List.Folds.{list_any_at, list_any_none}
use Rattle.std.proofs.lemmas.List.Sorted.{IsNonDecreasingBy-take, IsNonDecreasingBy-drop}
use Rattle.std.proofs.lemmas.Option.{slice_get-get_or}
use Rattle.suspensions.specs.declared.given.Given.{Given}
use Rattle.suspensions.specs.declared.ends.Ending.{Ending}
use Rattle.suspensions.specs.Orders.{is_live, live, least, next_end, has_live, end_of_given}
use Rattle.suspensions.specs.Index.{IsIndex, AreNumbered, stands, ending_of}
use Rattle.suspensions.specs.inside.Least.{is_at, is_below, IsLeast, is_given, passes}
use Rattle.suspensions.proofs.CountLemmas.{count_none, count_some, count_same, find-filter, any-filter}
use Rattle.suspensions.proofs.LeastLemmas.{one_least, least_skip, least_take, least_turned, least_behind, least_is_least, first_is_least}

shuffled : (at end resumed meant : Bool) → (not resumed && (end && (at && meant))) ≡ (((at && end) && not resumed) && meant)
shuffled false false false meant = refl
shuffled false false true meant = refl
shuffled false true false meant = refl
shuffled false true true meant = refl
shuffled true false false meant = refl
shuffled true false true meant = refl
shuffled true true false meant = refl
shuffled true true true meant = refl

and_joined : (a b c d : Bool) → (a && b) ≡ d → (a && (b && c)) ≡ (d && c)
and_joined true b c d is = ap (λ e. e && c) is
and_joined false b c d is = ap (λ e. e && c) is

-- the test of an end is that of its order
agrees : (t : ℕ) (test : Given → Bool) (book : List Given) → AreNumbered book
    → All (λ g. stands (passes t test book) g ≡ (is_live t g && test g)) book
agrees t test book numbered k d within =
    let g = get_or book k d in
    let number : g.number ≡ k + 1 = numbered k d within in
    let there : slice_get book (g.number - 1) ≡ Some g =
    ap (slice_get book) {x = g.number - 1} {y = k} (omega (arith, number)) ∙ slice_get-get_or book k d within in
    ap (λ o. not g.resumed && (nat_lt t (end_of_given g) && option_map_or (λ h. nat_le h.at t && test h) o false)) there
    ∙ shuffled (nat_le g.at t) (nat_lt t (end_of_given g)) g.resumed (test g)

pub index_least : (in_ends : Ending → ℕ) (in_book : Given → ℕ) → ((g : Given) → in_ends (ending_of g) ≡ in_book g)
    → (t : ℕ) (test : Given → Bool) (book : List Given) (ends : List Ending) (o : Option ℕ) → IsIndex book ends
    → IsLeast in_ends (passes t test book) ends o → IsLeast in_book (λ g. is_live t g && test g) book o
index_least in_ends in_book same t test book ends None is least =
    sym (count_same (stands (passes t test book)) (λ g. is_live t g && test g) book (agrees t test book is.numbered))
    ∙ sym (is.counts (passes t test book)) ∙ least
index_least in_ends in_book same t test book ends (Some n) is least =
    let p = passes t test book in
    let q : Given → Bool = λ g. is_live t g && test g in
    let at : count_by (stands (is_at in_ends p n)) book ≡ count_by (is_at in_book q n) book =
    count_same (stands (is_at in_ends p n)) (is_at in_book q n) book
    (λ k d within.
    let g = get_or book k d in
    and_joined (not g.resumed) (p (ending_of g)) (in_ends (ending_of g) == n) (q g) (agrees t test book is.numbered k d within)
    ∙ ap (λ m. q g && m == n) (same g)) in
    let below : count_by (stands (is_below in_ends p n)) book ≡ count_by (is_below in_book q n) book =
    count_same (stands (is_below in_ends p n)) (is_below in_book q n) book
    (λ k d within.
    let g = get_or book k d in
    and_joined (not g.resumed) (p (ending_of g)) (nat_lt (in_ends (ending_of g)) n) (q g) (agrees t test book is.numbered k d within)
    ∙ ap (λ m. q g && nat_lt m n) (same g)) in
    let first = is.counts (is_at in_ends p n) in
    (omega (arith, at, first, least.0), sym below ∙ sym (is.counts (is_below in_ends p n)) ∙ least.1)

-- of ends that are over none passes
none_over : (t : ℕ) (test : Given → Bool) (book : List Given) (ends : List Ending) (from : ℕ)
    → AllWithin (λ e. e.end ≤ t) ends 0 from → from ≤ length ends → All (λ e. passes t test book e ≡ false) (take from ends)
none_over t test book ends from over bound k d within =
    let long = length-take from ends in
    let less : k < from = omega (arith, within, long) in
    let low : (get_or (take from ends) k d).end ≤ t = rw (get_or-take from ends k d less) (over k d (omega arith) less) in
    and_left (nat_lt t (get_or (take from ends) k d).end) _ (le-ltb t (get_or (take from ends) k d).end low)

behind_over : (in_ends : Ending → ℕ) (t : ℕ) (test : Given → Bool) (book : List Given) (ends : List Ending) (from : ℕ) (o : Option ℕ)
    → AllWithin (λ e. e.end ≤ t) ends 0 from → from ≤ length ends
    → IsLeast in_ends (passes t test book) (drop from ends) o → IsLeast in_ends (passes t test book) ends o
behind_over in_ends t test book ends from o over bound is =
    subst (λ es. IsLeast in_ends (passes t test book) es o) (take-append-drop from ends)
    (least_behind in_ends (passes t test book) (take from ends) (drop from ends) o (none_over t test book ends from over bound) is)

pub first_answer : (t : ℕ) (test : Given → Bool) (book : List Given) (ends : List Ending) (from : ℕ) (o : Option ℕ) → IsIndex book ends
    → AllWithin (λ e. e.end ≤ t) ends 0 from → from ≤ length ends
    → IsLeast (λ e. e.number) (passes t test book) (drop from ends) o → o ≡ option_map (λ g. g.number) (find test (live book t))
first_answer t test book ends from o index over bound is =
    let q : Given → Bool = λ g. is_live t g && test g in
    let all = behind_over (λ e. e.number) t test book ends from o over bound is in
    let numbers : (k : ℕ) (d : Given) → k < length book → (get_or book k d).number ≡ 1 + k = λ k d within. index.numbered k d within ∙ omega arith in
    one_least (λ g. g.number) q book o (option_map (λ g. g.number) (find q book))
    (index_least (λ e. e.number) (λ g. g.number) (λ g. refl) t test book ends o index all)
    (first_is_least (λ g. g.number) q 1 book numbers)
    ∙ ap (option_map (λ g. g.number)) (sym (find-filter (is_live t) test book))

and_true : (b : Bool) → (b && true) ≡ b
and_true true = refl
and_true false = refl

pub next_answer : (t : ℕ) (book : List Given) (ends : List Ending) (from : ℕ) (o : Option ℕ) → IsIndex book ends
    → AllWithin (λ e. e.end ≤ t) ends 0 from → from ≤ length ends
    → IsLeast (λ e. e.end) (passes t (λ g. true) book) (drop from ends) o → o ≡ next_end book t
next_answer t book ends from o index over bound is =
    let q : Given → Bool = λ g. is_live t g && true in
    let all = behind_over (λ e. e.end) t (λ g. true) book ends from o over bound is in
    one_least end_of_given q book o (least (map end_of_given (filter q book)))
    (index_least (λ e. e.end) end_of_given (λ g. refl) t (λ g. true) book ends o index all)
    (least_is_least end_of_given q book)
    ∙ ap (λ xs. least (map end_of_given xs)) (filter_agree q (is_live t) (λ g. and_true (is_live t g)) book)

-- one more end
pub first_more : (p : Ending → Bool) (ends : List Ending) (i : ℕ) (d : Ending) (o : Option ℕ) → i < length ends → p (get_or ends i d) ≡ true
    → IsLeast (λ e. e.number) p (take i ends) o
    → IsLeast (λ e. e.number) p (take (i + 1) ends) (Some (option_map_or (min (get_or ends i d).number) o (get_or ends i d).number))
first_more p ends i d o within passes is =
    let e = get_or ends i d in
    let n : Option ℕ = Some (option_map_or (min e.number) o e.number) in
    subst (λ es. IsLeast (λ x. x.number) p es n) (sym (take_more ends i d within))
    (least_turned (λ x. x.number) p e (take i ends) n (least_take (λ x. x.number) p e (take i ends) o passes is))

pub first_same : (p : Ending → Bool) (ends : List Ending) (i : ℕ) (d : Ending) (o : Option ℕ) → i < length ends → p (get_or ends i d) ≡ false
    → IsLeast (λ e. e.number) p (take i ends) o → IsLeast (λ e. e.number) p (take (i + 1) ends) o
first_same p ends i d o within fails is =
    let e = get_or ends i d in
    subst (λ es. IsLeast (λ x. x.number) p es o) (sym (take_more ends i d within))
    (least_turned (λ x. x.number) p e (take i ends) o (least_skip (λ x. x.number) p e (take i ends) o fails is))

-- the first end that passes is the least
pub next_found : (p : Ending → Bool) (ends : List Ending) (i : ℕ) (d : Ending) → IsNonDecreasingBy (λ e. e.end) ends → i < length ends
    → AllWithin (λ e. p e ≡ false) ends 0 i → p (get_or ends i d) ≡ true
    → IsLeast (λ e. e.end) p ends (Some (get_or ends i d).end)
next_found p ends i d rises within none passes =
    let e = get_or ends i d in (
      count_some (is_at (λ x. x.end) p e.end) ends i d within (and_from _ _ passes (eq-eqb e.end e.end refl)),
      count_none (is_below (λ x. x.end) p e.end) ends
          (λ k c less.
          let x = get_or ends k c in
          ⊎_elim (λ before. and_left (p x) _ (none k c (omega arith) before))
          (λ behind.
          let high : e.end ≤ x.end = rw (get_or_default ends i d c within) (rises i k c behind less) in
          and_right (p x) _ (le-ltb x.end e.end high))
          (cases_lt k i)),
    )

-- the ends from a place on, as a loop goes over them
abbrev pub rest : List Ending → ℕ → List Ending
rest ends from = take (length ends - from) (drop from ends)

-- whether an end there passes
pub passing : (t : ℕ) (test : Given → Bool) (book : List Given) (ends : List Ending) (from i : ℕ) (d : Ending)
    → AllWithin (λ e. t < e.end) ends from (length ends) → i < length (rest ends from)
    → passes t test book (get_or (rest ends from) i d) ≡ is_given t test book (get_or (rest ends from) i d)
passing t test book ends from i d later within =
    let P : List Ending → Type 0 = λ es. i < length es → t < (get_or es i d).end in
    let long = length-drop from ends in
    let behind : P (drop from ends) = λ less. rw (get_or-drop from ends i d) (later (from + i) d (omega arith) (omega (arith, less, long))) in
    let e = get_or (rest ends from) i d in
    ap (λ b. b && is_given t test book e) (lt-ltb t e.end (subst P (sym (take_rest ends from)) behind within))

-- at the end of the loop
pub all_of_rest : (in_ends : Ending → ℕ) (p : Ending → Bool) (ends : List Ending) (from i : ℕ) (o : Option ℕ)
    → length (rest ends from) ≤ i → IsLeast in_ends p (take i (rest ends from)) o → IsLeast in_ends p (drop from ends) o
all_of_rest in_ends p ends from i o past is =
    subst (λ es. IsLeast in_ends p es o) (take_all i (rest ends from) past ∙ take_rest ends from) is

pub found_in_rest : (p : Ending → Bool) (ends : List Ending) (from i : ℕ) (d : Ending) → IsNonDecreasingBy (λ e. e.end) ends
    → i < length (rest ends from) → AllWithin (λ e. p e ≡ false) (rest ends from) 0 i → p (get_or (rest ends from) i d) ≡ true
    → IsLeast (λ e. e.end) p (drop from ends) (Some (get_or (rest ends from) i d).end)
found_in_rest p ends from i d rises within none passes =
    let o : Option ℕ = Some (get_or (rest ends from) i d).end in
    subst (λ es. IsLeast (λ e. e.end) p es o) (take_rest ends from)
    (next_found p (rest ends from) i d
    (IsNonDecreasingBy-take (λ e. e.end) (length ends - from) (drop from ends) (IsNonDecreasingBy-drop (λ e. e.end) from ends rises))
    within none passes)

pub none_in_rest : (in_ends : Ending → ℕ) (p : Ending → Bool) (ends : List Ending) (from i : ℕ) → length (rest ends from) ≤ i
    → AllWithin (λ e. p e ≡ false) (rest ends from) 0 i → IsLeast in_ends p (drop from ends) None
none_in_rest in_ends p ends from i past none =
    subst (λ es. count_by p es ≡ 0) (take_rest ends from)
    (count_none p (rest ends from) (λ k d within. none k d (omega arith) (omega (arith, within, past))))

-- whether the order of a number is live
pub known_at : (t : ℕ) (book : List Given) (k : ℕ) (d : Given) → AreNumbered book → k < length book
    → has_live book t (k + 1) ≡ is_live t (get_or book k d)
known_at t book k d numbered within =
    let g = get_or book k d in
    let q : Given → Bool = λ x. is_live t x && x.number == k + 1 in
    let number = numbered k d within in
    any-filter (is_live t) (λ x. x.number == k + 1) book
    ∙ ⊎_elim
    (λ alive. list_any_at q book k d within (and_from _ _ alive (eq-eqb g.number (k + 1) number)) ∙ sym alive)
    (λ over.
    list_any_none q book
    (λ j c less.
    let x = get_or book j c in
    ⊎_elim
    (λ (same : j ≡ k). and_left (is_live t x) _ (ap (is_live t) (ap (λ i. get_or book i c) same ∙ get_or_default book k c d within) ∙ over))
    (λ (other : j ≡ k → ⊥). and_right (is_live t x) _ (ne_eqb x.number (k + 1) (λ is. other (omega (arith, is, numbered j c less)))))
    (cases_eq j k))
    ∙ sym over)
    (cases_Bool (is_live t g))

pub unknown_at : (t : ℕ) (book : List Given) (n : ℕ) → AreNumbered book → ((k : ℕ) → k < length book → k + 1 ≡ n → ⊥)
    → has_live book t n ≡ false
unknown_at t book n numbered apart =
    any-filter (is_live t) (λ x. x.number == n) book
    ∙ list_any_none (λ x. is_live t x && x.number == n) book
    (λ j c less. and_right (is_live t (get_or book j c)) _ (ne_eqb (get_or book j c).number n (λ is. apart j less (sym (numbered j c less) ∙ is))))
