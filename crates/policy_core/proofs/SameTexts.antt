-- Two lists of texts side by side.
use Rattle.std.proofs.Common.{◌≡◌, ◌≢◌, refl, ℕ, List, [], ◌∷◌, length, arith, Bool, true, false, ◌&&◌}
use Rattle.policy_core.specs.Site.{are_same_texts}

and_false : (a b : Bool) → b ≡ false → (a && b) ≡ false
and_false true b e = e
and_false false b e = refl

pub other_length : (xs ys : List (List ℕ)) → length xs ≢ length ys → are_same_texts xs ys ≡ false
other_length [] [] e = absurd (e refl)
other_length [] (y ∷ ys) e = refl
other_length (x ∷ xs) [] e = refl
other_length (x ∷ xs) (y ∷ ys) e = and_false _ _ (other_length xs ys (λ same. e (omega (arith, same))))
