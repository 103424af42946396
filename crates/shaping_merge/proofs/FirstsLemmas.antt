-- Of items with equal names the first.
use Rattle.std.proofs.Common.{◌≡◌, ◌∙◌, refl, sym, ap, ℕ, ◌+◌, ◌<◌, List, [], ◌∷◌, ◌++◌, append_assoc, length, get_or, drop, map, Bool, true, false, not, ◌||◌, ◌&&◌, cond, bytes_eq, if◌then◌else◌}
use Rattle.std.specs.List.{filter, list_any}
use Rattle.std.proofs.lemmas.List.{drop_more, map-append}
use Rattle.std.proofs.lemmas.Slice.Eq.{bytes_eq-Decides}
use Rattle.policy_core.specs.PathTables.{firsts, firsts_but}

-- only which names were met counts
pub same_met : {A : Type 0} (name_of : A → List ℕ) (f g : List ℕ → Bool) → ((name : List ℕ) → f name ≡ g name) → (xs : List A)
    → firsts_but name_of f xs ≡ firsts_but name_of g xs
same_met name_of f g same [] = refl
same_met name_of f g same (x ∷ xs) =
    rw (
      same (name_of x),
      same_met name_of f g same xs,
      same_met name_of (λ name. bytes_eq (name_of x) name || f name) (λ name. bytes_eq (name_of x) name || g name) (λ name. ap (λ b. bytes_eq (name_of x) name || b) (same name)) xs,
    )
    refl

-- an item of a new name is kept
pub new_kept : {A : Type 0} (name_of : A → List ℕ) (met next : List ℕ → Bool) (xs : List A) (i : ℕ) (x : A) (out : List A)
    → i < length xs → x ≡ get_or xs i x → met (name_of x) ≡ false
    → ((name : List ℕ) → next name ≡ (bytes_eq (name_of x) name || met name))
    → (out ++ x ∷ []) ++ firsts_but name_of next (drop (i + 1) xs) ≡ out ++ firsts_but name_of met (drop i xs)
new_kept name_of met next xs i x out within here new adds =
    rw (drop_more xs i x within, ← here, new, same_met name_of next (λ name. bytes_eq (name_of x) name || met name) adds (drop (i + 1) xs))
    (append_assoc out (x ∷ []) _)

met_stays : (met next : List ℕ → Bool) (name : List ℕ) → met name ≡ true → ((other : List ℕ) → next other ≡ (bytes_eq name other || met other))
    → (other : List ℕ) → next other ≡ met other
met_stays met next name e adds other = adds other ∙ by (bytes_eq name other) refl
  where
    by : (b : Bool) → bytes_eq name other ≡ b → (b || met other) ≡ met other
    by false f = refl
    by true f = sym e ∙ ap met ((bytes_eq-Decides name other).0 f)

-- one of a name that was met is not
pub met_left : {A : Type 0} (name_of : A → List ℕ) (met next : List ℕ → Bool) (xs : List A) (i : ℕ) (x : A)
    → i < length xs → x ≡ get_or xs i x → met (name_of x) ≡ true
    → ((name : List ℕ) → next name ≡ (bytes_eq (name_of x) name || met name))
    → firsts_but name_of next (drop (i + 1) xs) ≡ firsts_but name_of met (drop i xs)
met_left name_of met next xs i x within here old adds =
    rw (drop_more xs i x within, ← here, old) (same_met name_of next met (met_stays met next (name_of x) old adds) (drop (i + 1) xs))

-- a name that is added
pub added : (a b with : Bool) → with ≡ cond a true b → with ≡ (a || b)
added true b with e = e
added false b with e = e

-- a name is new where it was not met
pub not_met : (new met : Bool) → new ≡ not met → new ≡ true → met ≡ false
not_met new true e is = absurd cc
not_met new false e is = refl

pub is_met : (new met : Bool) → new ≡ not met → new ≡ false → met ≡ true
is_met new true e is = refl
is_met new false e is = absurd cc

filter_append : {A : Type 0} (p : A → Bool) (xs ys : List A) → filter p (xs ++ ys) ≡ filter p xs ++ filter p ys
filter_append p [] ys = refl
filter_append p (x ∷ xs) ys = rw (filter_append p xs ys) (by (p x))
  where
    by : (b : Bool) → (if b then x ∷ (filter p xs ++ filter p ys) else filter p xs ++ filter p ys) ≡ (if b then x ∷ filter p xs else filter p xs) ++ filter p ys
    by true = refl
    by false = refl

-- of those that pass a test, one of a new name stands before the rest
pub new_passes : {A : Type 0} (p : A → Bool) (name_of : A → List ℕ) (met next : List ℕ → Bool) (xs : List A) (i : ℕ) (x : A)
    → i < length xs → x ≡ get_or xs i x → met (name_of x) ≡ false
    → ((name : List ℕ) → next name ≡ (bytes_eq (name_of x) name || met name))
    → filter p (x ∷ []) ++ filter p (firsts_but name_of next (drop (i + 1) xs)) ≡ filter p (firsts_but name_of met (drop i xs))
new_passes p name_of met next xs i x within here new adds =
    sym (filter_append p (x ∷ []) (firsts_but name_of next (drop (i + 1) xs)))
    ∙ ap (filter p) (new_kept name_of met next xs i x [] within here new adds)

-- and so for what stands in them
pub new_taken : {A B : Type 0} (f : A → B) (p : A → Bool) (name_of : A → List ℕ) (met next : List ℕ → Bool) (xs : List A) (i : ℕ) (x : A) (out : List B)
    → i < length xs → x ≡ get_or xs i x → met (name_of x) ≡ false
    → ((name : List ℕ) → next name ≡ (bytes_eq (name_of x) name || met name))
    → (out ++ map f (filter p (x ∷ []))) ++ map f (filter p (firsts_but name_of next (drop (i + 1) xs))) ≡ out ++ map f (filter p (firsts_but name_of met (drop i xs)))
new_taken f p name_of met next xs i x out within here new adds =
    append_assoc out (map f (filter p (x ∷ []))) _
    ∙ ap (λ rest. out ++ rest)
    (sym (map-append f (filter p (x ∷ [])) (filter p (firsts_but name_of next (drop (i + 1) xs))))
    ∙ ap (map f) (new_passes p name_of met next xs i x within here new adds))

-- what some item of each name passes, and what some item passes
no_more : {A : Type 0} (name_of : A → List ℕ) (test met : List ℕ → Bool) (xs : List A) → ((name : List ℕ) → met name ≡ true → test name ≡ false)
    → list_any (λ x. test (name_of x)) (firsts_but name_of met xs) ≡ list_any (λ x. test (name_of x)) xs
no_more name_of test met [] fails = refl
no_more name_of test met (x ∷ xs) fails = by (λ f fails. no_more name_of test f xs fails) (met (name_of x)) (test (name_of x)) refl refl
  where
    next : List ℕ → Bool
    next name = bytes_eq (name_of x) name || met name

    also : test (name_of x) ≡ false → (name : List ℕ) → (b : Bool) → bytes_eq (name_of x) name ≡ b → (b || met name) ≡ true → test name ≡ false
    also f name true e m = sym (ap test ((bytes_eq-Decides (name_of x) name).0 e)) ∙ f
    also f name false e m = fails name m

    by : ((f : List ℕ → Bool) → ((name : List ℕ) → f name ≡ true → test name ≡ false) → list_any (λ x. test (name_of x)) (firsts_but name_of f xs) ≡ list_any (λ x. test (name_of x)) xs)
        → (m t : Bool) → met (name_of x) ≡ m → test (name_of x) ≡ t
        → list_any (λ x. test (name_of x)) (if m then firsts_but name_of met xs else x ∷ firsts_but name_of next xs) ≡ (test (name_of x) || list_any (λ x. test (name_of x)) xs)
    by again true t m e = rw (fails (name_of x) m) (again met fails)
    by again false true m e = rw e refl
    by again false false m e = rw e (again next (λ name. also e name (bytes_eq (name_of x) name) refl))

pub any_of_firsts : {A : Type 0} (name_of : A → List ℕ) (test : List ℕ → Bool) (xs : List A)
    → list_any (λ x. test (name_of x)) (firsts name_of xs) ≡ list_any (λ x. test (name_of x)) xs
any_of_firsts name_of test xs = no_more name_of test (λ name. false) xs (λ name e. absurd cc)

-- a test of those names that pass another
any_passing : {A : Type 0} (name_of : A → List ℕ) (p test : List ℕ → Bool) (xs : List A)
    → list_any test (map name_of (filter (λ x. p (name_of x)) xs)) ≡ list_any (λ x. p (name_of x) && test (name_of x)) xs
any_passing name_of p test [] = refl
any_passing name_of p test (x ∷ xs) = rw (← any_passing name_of p test xs) (by (p (name_of x)))
  where
    by : (b : Bool) → list_any test (map name_of (if b then x ∷ filter (λ x. p (name_of x)) xs else filter (λ x. p (name_of x)) xs))
        ≡ (b && test (name_of x) || list_any test (map name_of (filter (λ x. p (name_of x)) xs)))
    by true = refl
    by false = refl

any_passing_name : {A : Type 0} (name_of : A → List ℕ) (p test : List ℕ → Bool) (xs : List A)
    → list_any test (filter p (map name_of xs)) ≡ list_any (λ x. p (name_of x) && test (name_of x)) xs
any_passing_name name_of p test [] = refl
any_passing_name name_of p test (x ∷ xs) = rw (← any_passing_name name_of p test xs) (by (p (name_of x)))
  where
    by : (b : Bool) → list_any test (if b then name_of x ∷ filter p (map name_of xs) else filter p (map name_of xs))
        ≡ (b && test (name_of x) || list_any test (filter p (map name_of xs)))
    by true = refl
    by false = refl

-- names are tested alike with and without what is met again
pub any_name : {A : Type 0} (name_of : A → List ℕ) (p test : List ℕ → Bool) (xs : List A)
    → list_any test (map name_of (filter (λ x. p (name_of x)) (firsts name_of xs))) ≡ list_any test (filter p (map name_of xs))
any_name name_of p test xs =
    any_passing name_of p test (firsts name_of xs)
    ∙ any_of_firsts name_of (λ name. p name && test name) xs
    ∙ sym (any_passing_name name_of p test xs)

any_append : {A : Type 0} (test : A → Bool) (xs ys : List A) → list_any test (xs ++ ys) ≡ (list_any test xs || list_any test ys)
any_append test [] ys = refl
any_append test (x ∷ xs) ys = rw (any_append test xs ys) (by (test x))
  where
    by : (b : Bool) → (b || (list_any test xs || list_any test ys)) ≡ ((b || list_any test xs) || list_any test ys)
    by true = refl
    by false = refl

-- and that between others
pub any_between : {A : Type 0} (test : A → Bool) (before some others after : List A) → list_any test some ≡ list_any test others
    → list_any test (before ++ (some ++ after)) ≡ list_any test (before ++ (others ++ after))
any_between test before some others after e =
    rw (any_append test before (some ++ after), any_append test some after, any_append test before (others ++ after), any_append test others after, e) refl
