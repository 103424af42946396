-- A search among rows in byte order.
use Rattle.std.proofs.Common.{◌≡◌, ◌∙◌, sym, ap, refl, ℕ, zero, suc, ◌+◌, ◌<◌, List, [], ◌∷◌, length, get_or, map, find, Bool, true, false, ◌&&◌, IsTrue, Some, None, bytes_eq, inl, inr, arith}
use Rattle.std.specs.declared.cmp.Ordering.{Ordering}
use Rattle.std.specs.declared.cmp.Ordering.TheVariants.{Less, Equal, Greater}
use Rattle.std.specs.Ordering.{nat_cmp, is_lt, is_eq, ordering_reverse, ordering_index}
use Rattle.std.specs.Cmp.Lexicographic.{slice_cmp}
use Rattle.std.specs.List.{list_all}
use Rattle.std.specs.List.Sorted.{IsNonDecreasingBy, IsPartitionPoint}
use Rattle.std.proofs.lemmas.Bool.{cases_lt}
use Rattle.std.proofs.lemmas.Cmp.{nat_list_cmp_total}
use Rattle.std.proofs.lemmas.Map.Text.{is_eq-slice_cmp}
use Rattle.std.proofs.lemmas.List.Sorted.{searchable_from_sorted}
use Rattle.std.proofs.lemmas.List.Recursion.{found_at, found_nowhere}
use Rattle.policy_core.specs.declared.mx.MxRow.{MxRow}
use Rattle.policy_core.specs.Mx.{comes_before, ascend_behind, ascend, has_hosts, is_mx_table}

abbrev pub text_cmp : List ℕ → List ℕ → Ordering
text_cmp a b = slice_cmp nat_cmp a b

pub first_of_both : (a b : Bool) → (a && b) ≡ true → a ≡ true
first_of_both true b e = refl
first_of_both false b e = e

pub second_of_both : (a b : Bool) → (a && b) ≡ true → b ≡ true
second_of_both true b e = e
second_of_both false b e = cc

less_from_test : (o : Ordering) → is_lt o ≡ true → o ≡ Less
less_from_test Less e = refl
less_from_test Equal e = cc
less_from_test Greater e = cc

-- a text comes before those behind it
ahead : {A : Type 0} (key : A → List ℕ) (text : List ℕ) (xs : List A) (k : ℕ) (d : A)
    → ascend_behind text (map key xs) ≡ true → k < length xs → text_cmp text (key (get_or xs k d)) ≡ Less
ahead key text [] k d up within = absurd (omega arith)
ahead key text (x ∷ xs) zero d up within = less_from_test _ (first_of_both _ (ascend_behind (key x) (map key xs)) up)
ahead key text (x ∷ xs) (suc k) d up within =
    nat_list_cmp_total.trans text (key x) (key (get_or xs k d)) (less_from_test _ (first_of_both _ (ascend_behind (key x) (map key xs)) up))
    (ahead key (key x) xs k d (second_of_both (comes_before text (key x)) _ up) (omega (arith, within)))

behind_first : {A : Type 0} (key : A → List ℕ) (x : A) (xs : List A) → ascend (map key (x ∷ xs)) ≡ true → ascend (map key xs) ≡ true
behind_first key x [] up = refl
behind_first key x (y ∷ xs) up = second_of_both (comes_before (key x) (key y)) _ up

pub rises : {A : Type 0} (key : A → List ℕ) (xs : List A) (i j : ℕ) (d : A)
    → ascend (map key xs) ≡ true → i < j → j < length xs → text_cmp (key (get_or xs i d)) (key (get_or xs j d)) ≡ Less
rises key [] i j d up less within = absurd (omega arith)
rises key (x ∷ xs) i zero d up less within = absurd (omega arith)
rises key (x ∷ xs) zero (suc j) d up less within = ahead key (key x) xs j d up (omega (arith, within))
rises key (x ∷ xs) (suc i) (suc j) d up less within = rises key xs i j d (behind_first key x xs up) (omega (arith, less)) (omega (arith, within))

-- so a binary search answers
pub searchable : {A : Type 0} (key : A → List ℕ) (xs : List A) (text : List ℕ) → ascend (map key xs) ≡ true
    → IsNonDecreasingBy (λ y. ordering_index (text_cmp (key y) text)) xs
searchable key xs text up =
    searchable_from_sorted nat_list_cmp_total key xs text
    (λ k d low high.
    ap is_lt (nat_list_cmp_total.antisymm (key (get_or xs (k + 1) d)) (key (get_or xs k d))
    ∙ ap ordering_reverse (rises key xs k (k + 1) d up (omega arith) high)))

different : (a b : List ℕ) (o : Ordering) → text_cmp a b ≡ o → is_eq o ≡ false → bytes_eq a b ≡ false
different a b o e test = sym (is_eq-slice_cmp a b) ∙ ap is_eq e ∙ test

before_equal : (a b text : List ℕ) → text_cmp a b ≡ Less → text_cmp b text ≡ Equal → text_cmp a text ≡ Less
before_equal a b text less equal =
    nat_list_cmp_total.antisymm a text ∙ ap ordering_reverse (sym (nat_list_cmp_total.congr b text a equal))
    ∙ sym (nat_list_cmp_total.antisymm a b) ∙ less

-- an item that is equal is the first that is
pub found : {A : Type 0} (key : A → List ℕ) (xs : List A) (text : List ℕ) (i : ℕ) (d : A) → ascend (map key xs) ≡ true → i < length xs
    → text_cmp (key (get_or xs i d)) text ≡ Equal → find (λ x. bytes_eq (key x) text) xs ≡ Some (get_or xs i d)
found key xs text i d up within equal =
    found_at (find (λ x. bytes_eq (key x) text)) (λ x. bytes_eq (key x) text) Some None refl (λ _ _. refl) xs i d within
    (λ k less. different _ text Less (before_equal _ (key (get_or xs i d)) text (rises key xs k i d up less within) equal) refl)
    (sym (is_eq-slice_cmp _ text) ∙ ap is_eq equal)

-- there is none between the lesser and the greater
pub not_found : {A : Type 0} (key : A → List ℕ) (xs : List A) (text : List ℕ) (i : ℕ) (d : A)
    → IsPartitionPoint (λ x. text_cmp (key x) text ≡ Less) (λ x. text_cmp (key x) text ≡ Greater) xs i
    → find (λ x. bytes_eq (key x) text) xs ≡ None
not_found key xs text i d parts =
    found_nowhere (find (λ x. bytes_eq (key x) text)) (λ x. bytes_eq (key x) text) Some None refl (λ _ _. refl) xs d
    (λ k within.
    elim (cases_lt k i) [
      | inl less ↦ different _ text Less (parts.0 k d (omega arith) less) refl
      | inr past ↦ different _ text Greater (parts.1 k d past within) refl
    ])

pub domains_ascend : (rows : List MxRow) → IsTrue (is_mx_table rows) → ascend (map (λ row. row.domain) rows) ≡ true
unfolding is_mx_table
domains_ascend rows h = first_of_both _ (list_all (λ row. has_hosts row.hosts) rows) h
