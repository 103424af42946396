-- Which items a filter, a search and a choice give.
use Rattle.std.proofs.Common.{◌≡◌, ◌⊎◌, inl, inr, ⊎_elim, ℕ, List, [], ◌∷◌, Bool, true, false, cond, ◌&&◌, Option, Some, None, filter, map, leb, arith, refl, sym, ap, subst, ◌∙◌}
use Rattle.std.specs.List.{All, Contains, find, list_any}
use Rattle.std.proofs.lemmas.Bool.{false≢true, or_cases, or_left, or_right}
use Rattle.std.proofs.lemmas.List.Elements.{All-head, All-tail, Contains-append_cases, Contains-append_left, Contains-append_right, Contains-push, Contains-push_cases, filter_agree}
use Rattle.std.proofs.lemmas.Option.{same_Some}
use Rattle.history_core.specs.Openable.{lesser, least_by}

-- membership of a list by its first item
pub there_none : {X : Type 0} (x : X) → Contains [] x → ⊥
there_none x c = omega (arith, c.1)

pub there_first : {X : Type 0} (x : X) (xs : List X) → Contains (x ∷ xs) x
there_first x xs = Contains-append_left (x ∷ []) xs x (Contains-push [] x)

pub there_later : {X : Type 0} (x : X) (xs : List X) (y : X) → Contains xs y → Contains (x ∷ xs) y
there_later x xs y c = Contains-append_right (x ∷ []) xs y c

pub there_cases : {X : Type 0} (x : X) (xs : List X) (y : X) → Contains (x ∷ xs) y → (x ≡ y) ⊎ Contains xs y
there_cases x xs y c =
    ⊎_elim
    (λ first. ⊎_elim (λ none. absurd (there_none y none)) (λ same. inl same) (Contains-push_cases [] x y first))
    (λ later. inr later)
    (Contains-append_cases (x ∷ []) xs y c)

-- what is there and passes
abbrev pub Passing : {X : Type 0} → (X → Bool) → List X → X → Type 0
Passing p xs x = Contains xs x × (p x ≡ true)

passing_later : {X : Type 0} (p : X → Bool) (x : X) (xs : List X) (y : X) → Passing p xs y → Passing p (x ∷ xs) y
passing_later p x xs y both = (there_later x xs y both.0, both.1)

find_next : {X : Type 0} (p : X → Bool) (x : X) (xs : List X) (y : X) (b : Bool) → p x ≡ b → (find p xs ≡ Some y → Passing p xs y)
    → cond b (Some x) (find p xs) ≡ Some y → Passing p (x ∷ xs) y
find_next p x xs y true passes later is =
    let same : x ≡ y = same_Some x y is in
    (subst (Contains (x ∷ xs)) same (there_first x xs), subst (λ z. p z ≡ true) same passes)
find_next p x xs y false passes later is = passing_later p x xs y (later is)

-- what a search finds
pub find_there : {X : Type 0} (p : X → Bool) (xs : List X) (y : X) → find p xs ≡ Some y → Passing p xs y
find_there p [] y is = absurd cc
find_there p (x ∷ xs) y is = find_next p x xs y (p x) refl (find_there p xs y) is

missed_next : {X : Type 0} (p : X → Bool) (x : X) (xs : List X) (b : Bool) → p x ≡ b → cond b (Some x) (find p xs) ≡ None
    → (p x ≡ false) × (find p xs ≡ None)
missed_next p x xs true passes is = absurd cc
missed_next p x xs false passes is = (passes, is)

-- what none is found of is not there
pub find_none : {X : Type 0} (p : X → Bool) (xs : List X) (y : X) → find p xs ≡ None → Contains xs y → p y ≡ true → ⊥
find_none p [] y is c passes = there_none y c
find_none p (x ∷ xs) y is c passes =
    let (first, later) = missed_next p x xs (p x) refl is in
    ⊎_elim (λ same. false≢true (sym first ∙ ap p same ∙ passes)) (λ there. find_none p xs y later there passes) (there_cases x xs y c)

kept_next : {X : Type 0} (p q : X → Bool) (x : X) (xs : List X) (y : X) (b : Bool) → p x ≡ b → q y ≡ true
    → (find p xs ≡ Some y → find p (filter q xs) ≡ Some y) → cond b (Some x) (find p xs) ≡ Some y → find p (cond (q x) (x ∷ filter q xs) (filter q xs)) ≡ Some y
kept_next p q x xs y true passes keeps later is =
    let same : x ≡ y = same_Some x y is in
    ap (λ b. find p (cond b (x ∷ filter q xs) (filter q xs))) (ap q same ∙ keeps) ∙ ap (λ b. cond b (Some x) (find p (filter q xs))) passes ∙ is
kept_next p q x xs y false fails keeps later is = by (q x)
  where
    by : (c : Bool) → find p (cond c (x ∷ filter q xs) (filter q xs)) ≡ Some y
    by true = ap (λ b. cond b (Some x) (find p (filter q xs))) fails ∙ later is
    by false = later is

-- a filter that keeps what is found leaves it found
pub find-filter : {X : Type 0} (p q : X → Bool) (xs : List X) (y : X) → find p xs ≡ Some y → q y ≡ true → find p (filter q xs) ≡ Some y
find-filter p q [] y is keeps = is
find-filter p q (x ∷ xs) y is keeps = kept_next p q x xs y (p x) refl keeps (λ found. find-filter p q xs y found keeps) is

filter_next : {X : Type 0} (p : X → Bool) (x : X) (xs : List X) (y : X) (b : Bool) → p x ≡ b → (Contains (filter p xs) y → Passing p xs y)
    → Contains (cond b (x ∷ filter p xs) (filter p xs)) y → Passing p (x ∷ xs) y
filter_next p x xs y true passes later c =
    ⊎_elim
    (λ same. (subst (Contains (x ∷ xs)) same (there_first x xs), subst (λ z. p z ≡ true) same passes))
    (λ there. passing_later p x xs y (later there))
    (there_cases x (filter p xs) y c)
filter_next p x xs y false fails later c = passing_later p x xs y (later c)

-- what a filter keeps is there and passes
pub filter_there : {X : Type 0} (p : X → Bool) (xs : List X) (y : X) → Contains (filter p xs) y → Passing p xs y
filter_there p [] y c = absurd (there_none y c)
filter_there p (x ∷ xs) y c = filter_next p x xs y (p x) refl (filter_there p xs y) c

keep_first : {X : Type 0} (x : X) (fs : List X) (b : Bool) → b ≡ true → Contains (cond b (x ∷ fs) fs) x
keep_first x fs true passes = there_first x fs
keep_first x fs false passes = absurd cc

keep_later : {X : Type 0} (x : X) (fs : List X) (y : X) (b : Bool) → Contains fs y → Contains (cond b (x ∷ fs) fs) y
keep_later x fs y true c = there_later x fs y c
keep_later x fs y false c = c

-- what is there and passes is kept
pub there_filter : {X : Type 0} (p : X → Bool) (xs : List X) (y : X) → Contains xs y → p y ≡ true → Contains (filter p xs) y
there_filter p [] y c passes = absurd (there_none y c)
there_filter p (x ∷ xs) y c passes =
    ⊎_elim
    (λ same. subst (Contains (filter p (x ∷ xs))) same (keep_first x (filter p xs) (p x) (ap p same ∙ passes)))
    (λ later. keep_later x (filter p xs) y (p x) (there_filter p xs y later passes))
    (there_cases x xs y c)

-- an item of an image is the image of an item
pub map_there : {X Y : Type 0} (f : X → Y) (xs : List X) (y : Y) → Contains (map f xs) y → (x : X) × Contains xs x × (f x ≡ y)
map_there f [] y c = absurd (there_none y c)
map_there f (x ∷ xs) y c =
    ⊎_elim
    (λ same. (x, there_first x xs, same))
    (λ later. let (z, there, is) = map_there f xs y later in (z, there_later x xs z there, is))
    (there_cases (f x) (map f xs) y c)

pub there_map : {X Y : Type 0} (f : X → Y) (xs : List X) (x : X) → Contains xs x → Contains (map f xs) (f x)
there_map f [] x c = absurd (there_none x c)
there_map f (z ∷ xs) x c =
    ⊎_elim
    (λ same. subst (λ w. Contains (map f (z ∷ xs)) (f w)) same (there_first (f z) (map f xs)))
    (λ later. there_later (f z) (map f xs) (f x) (there_map f xs x later))
    (there_cases z xs x c)

-- where a test finds an item
pub any_there : {X : Type 0} (p : X → Bool) (xs : List X) → list_any p xs ≡ true → (x : X) × Contains xs x × (p x ≡ true)
any_there p [] is = absurd (false≢true is)
any_there p (x ∷ xs) is =
    ⊎_elim
    (λ first. (x, there_first x xs, first))
    (λ later. let (y, there, passes) = any_there p xs later in (y, there_later x xs y there, passes))
    (or_cases (p x) (list_any p xs) is)

pub there_any : {X : Type 0} (p : X → Bool) (xs : List X) (x : X) → Contains xs x → p x ≡ true → list_any p xs ≡ true
there_any p [] x c passes = absurd (there_none x c)
there_any p (z ∷ xs) x c passes =
    ⊎_elim
    (λ same. or_left (p z) (list_any p xs) (ap p same ∙ passes))
    (λ later. or_right (p z) (list_any p xs) (there_any p xs x later passes))
    (there_cases z xs x c)

lesser_cases : {X : Type 0} (rank : X → ℕ) (x : X) (o : Option X) (y : X) → lesser rank x o ≡ Some y → (x ≡ y) ⊎ (o ≡ Some y)
lesser_cases rank x None y is = inl (same_Some x y is)
lesser_cases rank x (Some other) y is = by (leb (rank x) (rank other)) is
  where
    by : (b : Bool) → cond b (Some x) (Some other) ≡ Some y → (x ≡ y) ⊎ (Some other ≡ Some y)
    by true chosen = inl (same_Some x y chosen)
    by false chosen = inr chosen

-- the least of a list is there
pub least_there : {X : Type 0} (rank : X → ℕ) (xs : List X) (y : X) → least_by rank xs ≡ Some y → Contains xs y
least_there rank [] y is = absurd cc
least_there rank (x ∷ xs) y is =
    ⊎_elim
    (λ same. subst (Contains (x ∷ xs)) same (there_first x xs))
    (λ later. there_later x xs y (least_there rank xs y later))
    (lesser_cases rank x (least_by rank xs) y is)

-- tests that agree at each item keep the same
pub filter_where : {X : Type 0} (P : X → Type 0) (p q : X → Bool) → ((x : X) → P x → p x ≡ q x) → (xs : List X) → All P xs → filter p xs ≡ filter q xs
filter_where P p q agree [] all = refl
filter_where P p q agree (x ∷ xs) all =
    ap (λ b. cond b (x ∷ filter p xs) (filter p xs)) (agree x (All-head P x xs all))
    ∙ ap (λ fs. cond (q x) (x ∷ fs) fs) (filter_where P p q agree xs (All-tail P x xs all))

-- all of a list whose items all pass
pub filter_whole : {X : Type 0} (p : X → Bool) (xs : List X) → All (λ x. p x ≡ true) xs → filter p xs ≡ xs
filter_whole p [] all = refl
filter_whole p (x ∷ xs) all =
    ap (λ b. cond b (x ∷ filter p xs) (filter p xs)) (All-head (λ z. p z ≡ true) x xs all)
    ∙ ap (λ fs. x ∷ fs) (filter_whole p xs (All-tail (λ z. p z ≡ true) x xs all))

both_next : {X : Type 0} (p : X → Bool) (x : X) (fs rest : List X) (b : Bool) → filter p fs ≡ rest
    → filter p (cond b (x ∷ fs) fs) ≡ cond (b && p x) (x ∷ rest) rest
both_next p x fs rest true same = ap (λ r. cond (p x) (x ∷ r) r) same
both_next p x fs rest false same = same

-- two filters are one by both tests, in either order
pub filter_both : {X : Type 0} (p q : X → Bool) (xs : List X) → filter p (filter q xs) ≡ filter (λ x. q x && p x) xs
filter_both p q [] = refl
filter_both p q (x ∷ xs) = both_next p x (filter q xs) (filter (λ z. q z && p z) xs) (q x) (filter_both p q xs)

and_turned : (a b : Bool) → (a && b) ≡ (b && a)
and_turned true true = refl
and_turned true false = refl
and_turned false true = refl
and_turned false false = refl

pub filter_turned : {X : Type 0} (p q : X → Bool) (xs : List X) → filter p (filter q xs) ≡ filter q (filter p xs)
filter_turned p q xs =
    filter_both p q xs ∙ filter_agree (λ x. q x && p x) (λ x. p x && q x) (λ x. and_turned (q x) (p x)) xs ∙ sym (filter_both q p xs)

map_next : {X Y : Type 0} (f : X → Y) (x : X) (fs : List X) (rest : List Y) (b : Bool) → map f fs ≡ rest
    → map f (cond b (x ∷ fs) fs) ≡ cond b (f x ∷ rest) rest
map_next f x fs rest true same = ap (λ r. f x ∷ r) same
map_next f x fs rest false same = same

pub map-filter : {X Y : Type 0} (f : X → Y) (p : Y → Bool) (xs : List X) → map f (filter (λ x. p (f x)) xs) ≡ filter p (map f xs)
map-filter f p [] = refl
map-filter f p (x ∷ xs) = map_next f x (filter (λ z. p (f z)) xs) (filter p (map f xs)) (p (f x)) (map-filter f p xs)
