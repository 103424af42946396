-- Hosts in byte order, each once.
use Rattle.std.proofs.Common.{◌≡◌, ◌∙◌, sym, ap, refl, suc, ℕ, ◌<◌, List, [], ◌∷◌, ◌||◌, Bool, true, false, cond, length, map, bytes_eq, IsTrue, arith}
use Rattle.std.specs.declared.cmp.Ordering.TheVariants.{Less}
use Rattle.std.specs.Ordering.{nat_cmp}
use Rattle.std.specs.Cmp.Lexicographic.{slice_cmp, on_texts, texts_ties}
use Rattle.std.specs.List.{list_any, dedup, dedup_from, AllByRecursion}
use Rattle.std.specs.List.Sorted.{IsSorted, IsStrictlySortedBy, IsPermutation}
use Rattle.std.proofs.lemmas.List.Kept.{IsStrictlySortedBy-dedup}
use Rattle.std.proofs.lemmas.List.Sorted.{length_permutation, list_any-IsPermutation}
use Rattle.std.proofs.lemmas.Slice.Eq.{bytes_eq-Decides}
use Rattle.policy_core.specs.Mx.{ascend_behind, ascend, has_hosts}

-- what is strictly sorted ascends
ascends_behind : {K : Type 0} (f : K → List ℕ) (x : K) (xs : List K) → AllByRecursion (λ y. slice_cmp nat_cmp (f x) (f y) ≡ Less) xs
    → IsStrictlySortedBy (λ a b. slice_cmp nat_cmp (f a) (f b)) xs → ascend_behind (f x) (map f xs) ≡ true
unfolding IsStrictlySortedBy
ascends_behind f x [] above sorted = refl
ascends_behind f x (y ∷ xs) above sorted = rw above.0 (ascends_behind f y xs sorted.0 sorted.1)

ascends : {K : Type 0} (f : K → List ℕ) (xs : List K) → IsStrictlySortedBy (λ a b. slice_cmp nat_cmp (f a) (f b)) xs → ascend (map f xs) ≡ true
unfolding IsStrictlySortedBy
ascends f [] sorted = refl
ascends f (x ∷ xs) sorted = ascends_behind f x xs sorted.0 sorted.1

-- a host or more that ascend are hosts of a row
are_hosts : (hosts : List (List ℕ)) → 0 < length hosts → ascend hosts ≡ true → IsTrue (has_hosts hosts)
are_hosts [] some up = absurd (omega arith)
are_hosts (host ∷ hosts) some up = up

dedup_from_some : {K : Type 0} (same : K → K → Bool) (k : K) (xs : List K) → 0 < length (dedup_from same k xs)
dedup_from_some same k [] = omega arith
dedup_from_some {K} same k (x ∷ xs) = by (same x k) (dedup_from_some same k xs) where
  by : (b : Bool) → 0 < length (dedup_from same k xs) → 0 < length (cond b (dedup_from same k xs) (k ∷ dedup_from same x xs))
  by true more = more
  by false more = omega arith

dedup_some : {K : Type 0} (same : K → K → Bool) (xs : List K) → 0 < length xs → 0 < length (dedup same xs)
dedup_some same [] some = some
dedup_some same (x ∷ xs) some = dedup_from_some same x xs

length-map : {A B : Type 0} (f : A → B) (xs : List A) → length (map f xs) ≡ length xs
length-map f [] = refl
length-map f (x ∷ xs) = ap suc (length-map f xs)

pub order_of : {K : Type 0} (f : K → List ℕ) (xs ys zs : List K) → 0 < length xs → IsPermutation xs ys
    → IsSorted (λ a b. slice_cmp nat_cmp (f a) (f b)) ys → zs ≡ dedup (λ a b. bytes_eq (f a) (f b)) ys → IsTrue (has_hosts (map f zs))
order_of f xs ys zs some moved sorted is =
    let same = λ (a b : _). bytes_eq (f a) (f b) in
    let enough : 0 < length (map f (dedup same ys)) =
    omega (arith, length-map f (dedup same ys), dedup_some same ys (omega (arith, length_permutation xs ys moved))) in
    rw is (are_hosts _ enough (ascends f _ (IsStrictlySortedBy-dedup (on_texts f) (λ a b. texts_ties (f a) (f b)) ys sorted)))

-- what repeats says nothing new
any_or : (p a b : Bool) → a ≡ p → (p || b) ≡ (p || (a || b))
any_or true a b e = refl
any_or false true b e = cc
any_or false false b e = refl

any_dedup_from : {K : Type 0} (same : K → K → Bool) (p : K → Bool) → ((x y : K) → same x y ≡ true → p x ≡ p y)
    → (k : K) (xs : List K) → list_any p (dedup_from same k xs) ≡ (p k || list_any p xs)
any_dedup_from same p ties k [] = refl
any_dedup_from {K} same p ties k (x ∷ xs) =
    by (same x k) refl (any_dedup_from same p ties k xs) (any_dedup_from same p ties x xs) where
      by : (b : Bool) → same x k ≡ b → list_any p (dedup_from same k xs) ≡ (p k || list_any p xs)
          → list_any p (dedup_from same x xs) ≡ (p x || list_any p xs)
          → list_any p (cond b (dedup_from same k xs) (k ∷ dedup_from same x xs)) ≡ (p k || (p x || list_any p xs))
      by true is here next = here ∙ any_or (p k) (p x) (list_any p xs) (ties x k is)
      by false is here next = ap (λ b. p k || b) next

any_dedup : {K : Type 0} (same : K → K → Bool) (p : K → Bool) → ((x y : K) → same x y ≡ true → p x ≡ p y)
    → (xs : List K) → list_any p (dedup same xs) ≡ list_any p xs
any_dedup same p ties [] = refl
any_dedup same p ties (x ∷ xs) = any_dedup_from same p ties x xs

any_map : {K X : Type 0} (p : X → Bool) (f : K → X) (xs : List K) → list_any p (map f xs) ≡ list_any (λ k. p (f k)) xs
any_map p f [] = refl
any_map p f (x ∷ xs) = ap (λ b. p (f x) || b) (any_map p f xs)

pub hosts_of : {K : Type 0} (f : K → List ℕ) (xs ys zs : List K) → IsPermutation xs ys → zs ≡ dedup (λ a b. bytes_eq (f a) (f b)) ys
    → (host : List ℕ) → list_any (bytes_eq host) (map f zs) ≡ list_any (bytes_eq host) (map f xs)
hosts_of f xs ys zs moved is host =
    let p = λ (k : _). bytes_eq host (f k) in
    ap (λ ks. list_any (bytes_eq host) (map f ks)) is ∙ any_map (bytes_eq host) f _
    ∙ any_dedup (λ a b. bytes_eq (f a) (f b)) p (λ a b e. ap (bytes_eq host) ((bytes_eq-Decides (f a) (f b)).0 e)) ys
    ∙ sym (list_any-IsPermutation p xs ys moved) ∙ sym (any_map (bytes_eq host) f xs)
