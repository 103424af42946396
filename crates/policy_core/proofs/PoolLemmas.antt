-- The first table by name, over tables met one after another.
use Rattle.std.proofs.Common.{◌≡◌, refl, sym, ap, ◌∙◌, ℕ, ◌+◌, ◌<◌, ◌≤◌, length, drop, get_or, List, [], ◌∷◌, ◌++◌, map, Bor, Bool, true, false, Option, Some, None}
use Rattle.std.specs.List.{flat_map}
use Rattle.std.proofs.lemmas.List.{drop_more, drop_all}
use Rattle.policy_core.specs.declared.sources.Sources.{Sources}
use Rattle.policy_core.specs.declared.queues.Queues.{Queues}
use Rattle.policy_core.specs.declared.pools.PoolCheck.{PoolCheck}
use Rattle.policy_core.specs.Policy.{PlacedLayer, least_text, earlier_text, lacks_pool, places_of_unknown, all_layers, unknown_pool}
use Rattle.policy_core.specs.inside.PoolCheck.{with_layers}

-- the first of some and then of others
pub least_of_append : (best : Option (List ℕ)) (xs ys : List (List ℕ)) → least_text best (xs ++ ys) ≡ least_text (least_text best xs) ys
least_of_append best [] ys = refl
least_of_append best (x ∷ xs) ys = least_of_append (Some (earlier_text best x)) xs ys

one_more : (sources : Sources) (x : PlacedLayer) (xs ys : List PlacedLayer) (lacks : Bool) → lacks_pool sources x.layer.pool ≡ lacks
    → places_of_unknown sources (xs ++ ys) ≡ places_of_unknown sources xs ++ places_of_unknown sources ys
    → places_of_unknown sources ((x ∷ xs) ++ ys) ≡ places_of_unknown sources (x ∷ xs) ++ places_of_unknown sources ys
one_more sources x xs ys true e rest = rw e (ap (λ places. x.place ∷ places) rest)
one_more sources x xs ys false e rest = rw e rest

pub unknown_of_append : (sources : Sources) (xs ys : List PlacedLayer)
    → places_of_unknown sources (xs ++ ys) ≡ places_of_unknown sources xs ++ places_of_unknown sources ys
unknown_of_append sources [] ys = refl
unknown_of_append sources (x ∷ xs) ys = one_more sources x xs ys _ refl (unknown_of_append sources xs ys)

pub with_none : (check : PoolCheck) → with_layers check [] ≡ check
unfolding with_layers
with_none check = refl

pub with_append : (check : PoolCheck) (xs ys : List PlacedLayer) → with_layers check (xs ++ ys) ≡ with_layers (with_layers check xs) ys
unfolding with_layers
with_append check xs ys =
    ap (λ unknown. record check { unknown = unknown })
    (ap (least_text check.unknown) (unknown_of_append check.sources.now xs ys) ∙ least_of_append check.unknown (places_of_unknown check.sources.now xs) (places_of_unknown check.sources.now ys))

-- some layers, and then others
pub with_then : (check next last : PoolCheck) (xs ys : List PlacedLayer) → next ≡ with_layers check xs → last ≡ with_layers next ys → last ≡ with_layers check (xs ++ ys)
with_then check next last xs ys e f = f ∙ ap (λ start. with_layers start ys) e ∙ sym (with_append check xs ys)

-- a step of a walk whose invariant says that what is left gives the same, and its end
pub step_of_lists : {A : Type 0} (f : A → List PlacedLayer) (xs : List A) (i : ℕ) (x : A) (check next whole : PoolCheck)
    → i < length xs → x ≡ get_or xs i x → next ≡ with_layers check (f x)
    → with_layers check (flat_map f (drop i xs)) ≡ whole → with_layers next (flat_map f (drop (i + 1) xs)) ≡ whole
step_of_lists f xs i x check next whole within here e left =
    rw e
    (sym (with_append check (f x) (flat_map f (drop (i + 1) xs)))
    ∙ ap (λ y. with_layers check (f y ++ flat_map f (drop (i + 1) xs))) here
    ∙ sym (ap (λ ys. with_layers check (flat_map f ys)) (drop_more xs i x within))
    ∙ left)

pub end_of_lists : {A : Type 0} (f : A → List PlacedLayer) (xs : List A) (i : ℕ) (check whole : PoolCheck)
    → length xs ≤ i → with_layers check (flat_map f (drop i xs)) ≡ whole → check ≡ whole
end_of_lists f xs i check whole past left =
    sym (with_none check) ∙ sym (ap (λ ys. with_layers check (flat_map f ys)) (drop_all i xs past)) ∙ left

pub step_of_items : {A : Type 0} (f : A → PlacedLayer) (xs : List A) (i : ℕ) (x : A) (check next whole : PoolCheck)
    → i < length xs → x ≡ get_or xs i x → next ≡ with_layers check (f x ∷ [])
    → with_layers check (map f (drop i xs)) ≡ whole → with_layers next (map f (drop (i + 1) xs)) ≡ whole
step_of_items f xs i x check next whole within here e left =
    rw e
    (sym (with_append check (f x ∷ []) (map f (drop (i + 1) xs)))
    ∙ ap (λ y. with_layers check (f y ∷ map f (drop (i + 1) xs))) here
    ∙ sym (ap (λ ys. with_layers check (map f ys)) (drop_more xs i x within))
    ∙ left)

pub end_of_items : {A : Type 0} (f : A → PlacedLayer) (xs : List A) (i : ℕ) (check whole : PoolCheck)
    → length xs ≤ i → with_layers check (map f (drop i xs)) ≡ whole → check ≡ whole
end_of_items f xs i check whole past left =
    sym (with_none check) ∙ sym (ap (λ ys. with_layers check (map f ys)) (drop_all i xs past)) ∙ left

-- the walk over all layers
pub unknown_with : (sources : Bor Sources) (queues : Queues) → (with_layers (record { sources = sources; unknown = None }) (all_layers queues)).unknown ≡ unknown_pool sources.now queues
unfolding with_layers unknown_pool
unknown_with sources queues = refl
