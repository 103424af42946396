-- What holds anyway holds on an error; and what is said of a text holds of an equal one.
use Rattle.std.proofs.Common.{◌≡◌, ◌∙◌, ap, subst, ℕ, List, Option, Result, Ok, Err, OnErr, IfOk, IfErr}
use Rattle.kumo_outside.specs.Content.{told_with, TakesPrefix}

pub OnErr-always : {T E P : Type 0} (r : Result T E) → P → OnErr r P
OnErr-always (Ok x) h = tt
OnErr-always (Err e) h = h

-- what is said of an answer, where it is this one
module _ {T E : Type 0} where
  pub ok_of : (r : Result T E) (x : T) (P : T → Type 0) → r ≡ Ok x → IfOk r P → P x
  ok_of r x P is h = subst (λ (q : Result T E). IfOk q P) is h

  pub err_of : (r : Result T E) (e : E) (P : E → Type 0) → r ≡ Err e → IfErr r P → P e
  err_of r e P is h = subst (λ (q : Result T E). IfErr q P) is h

pub told_as : (old new : Option (List ℕ)) (text line : List ℕ) → text ≡ line → new ≡ told_with old text → new ≡ told_with old line
told_as old new text line e h = h ∙ ap (told_with old) e

pub prefix_as : (old new : Option (List ℕ)) (text line : List ℕ) → text ≡ line → TakesPrefix old new text → TakesPrefix old new line
prefix_as old new text line e h = subst (λ (bytes : List ℕ). TakesPrefix old new bytes) e h
