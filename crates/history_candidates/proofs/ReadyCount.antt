-- How many pass two tests.
use Rattle.std.proofs.Common.{◌≡◌, List, [], ◌∷◌, Bool, true, false, cond, ◌&&◌, map, filter, length, count_by, refl, ap, ◌∙◌}
use Rattle.std.proofs.lemmas.List.{length-map}
use Rattle.std.proofs.lemmas.List.Sums.{length-filter}

both_here : {A : Type 0} (q : A → Bool) (a : Bool) (x : A) (xs both : List A) → filter q xs ≡ both
    → filter q (cond a (x ∷ xs) xs) ≡ cond (a && q x) (x ∷ both) both
both_here q true x xs both e = ap (λ more. cond (q x) (x ∷ more) more) e
both_here q false x xs both e = e

filter_both : {A : Type 0} (p q : A → Bool) (xs : List A) → filter q (filter p xs) ≡ filter (λ x. p x && q x) xs
filter_both p q [] = refl
filter_both p q (x ∷ xs) = both_here q (p x) x (filter p xs) _ (filter_both p q xs)

pub count_both : {A B : Type 0} (f : A → B) (p q : A → Bool) (xs : List A)
    → length (map f (filter q (filter p xs))) ≡ count_by (λ x. p x && q x) xs
count_both f p q xs =
    length-map (filter q (filter p xs)) f ∙ ap length (filter_both p q xs) ∙ length-filter (λ x. p x && q x) xs
