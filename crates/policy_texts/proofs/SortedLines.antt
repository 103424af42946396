-- Lines in byte order.
use Rattle.std.proofs.Common.{◌≡◌, ◌+◌, ◌<◌, List, [], ◌∷◌, length, map, Bool, refl, arith}
use Rattle.std.proofs.lemmas.List.{get_or-map}
use Rattle.std.specs.List.Sorted.{IsSortedBy}

length-map : {X Y : Type 0} (f : X → Y) (xs : List X) → length (map f xs) ≡ length xs
length-map f [] = refl
length-map f (x ∷ xs) = omega (arith, length-map f xs)

sorted_by : {X Y : Type 0} (f : X → Y) (lt : Y → Y → Bool) (xs : List X) (e : X) → IsSortedBy (λ x y. lt (f x) (f y)) xs → IsSortedBy lt (map f xs)
sorted_by f lt xs e up = λ k d low high.
    let n : length (map f xs) ≡ length xs = length-map f xs in
    let next : k + 1 < length xs = omega (arith, n, high) in
    let first : k < length xs = omega (arith, next) in
    rw (get_or-map f xs (k + 1) e d next, get_or-map f xs k e d first) (up k e low next)

-- what is in order by a key is, as its keys, in order
pub sorted_map : {X Y : Type 0} (f : X → Y) (lt : Y → Y → Bool) (xs : List X) → IsSortedBy (λ x y. lt (f x) (f y)) xs → IsSortedBy lt (map f xs)
sorted_map f lt [] up = λ k d low high. absurd (omega (arith, high))
sorted_map f lt (x ∷ xs) up = sorted_by f lt (x ∷ xs) x up
