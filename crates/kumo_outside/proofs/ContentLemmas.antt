-- How told bytes grow over several calls.
use Rattle.std.proofs.Common.{◌≡◌, ℕ, List, [], ◌∷◌, ◌++◌, Option, Some, None, refl, sym, ap, ◌∙◌, append_assoc, append-nil}
use Rattle.kumo_outside.specs.Content.{told_with, TakesPrefix, TakesProperPrefix}

pub told_with-append : (told : Option (List ℕ)) (xs ys : List ℕ) → told_with (told_with told xs) ys ≡ told_with told (xs ++ ys)
unfolding told_with
told_with-append None xs ys = refl
told_with-append (Some t) xs ys = ap Some (append_assoc t xs ys)

pub told_with-nil : (told : Option (List ℕ)) → told_with told [] ≡ told
unfolding told_with
told_with-nil None = refl
told_with-nil (Some t) = ap Some (append-nil t)

pub told_with-told : (t xs : List ℕ) → told_with (Some t) xs ≡ Some (t ++ xs)
unfolding told_with
told_with-told t xs = refl

-- one extension behind another
pub told_with-next :
    (old mid new : Option (List ℕ)) (xs ys : List ℕ) →
    mid ≡ told_with old xs →
    new ≡ told_with mid ys →
    new ≡ told_with old (xs ++ ys)
told_with-next old mid new xs ys e f = f ∙ ap (λ t. told_with t ys) e ∙ told_with-append old xs ys

-- all of the bytes are a prefix of them
pub TakesPrefix-whole : (old new : Option (List ℕ)) (bytes : List ℕ) → new ≡ told_with old bytes → TakesPrefix old new bytes
TakesPrefix-whole old new bytes e = (bytes, [], record { whole = append-nil bytes; added = e })

-- none of the bytes are a prefix of them
pub TakesPrefix-none : (old new : Option (List ℕ)) (bytes : List ℕ) → new ≡ old → TakesPrefix old new bytes
TakesPrefix-none old new bytes e = ([], bytes, record { whole = refl; added = e ∙ sym (told_with-nil old) })

-- a prefix of the bytes is a prefix of what they begin
pub TakesPrefix-more : (old new : Option (List ℕ)) (bytes more : List ℕ) → TakesPrefix old new bytes → TakesPrefix old new (bytes ++ more)
TakesPrefix-more old new bytes more (prefix, rest, h) =
    (prefix, rest ++ more, record { whole = sym (append_assoc prefix rest more) ∙ ap (λ xs. xs ++ more) h.whole; added = h.added })

-- behind bytes that were added whole a prefix of the next
pub TakesPrefix-after :
    (old mid new : Option (List ℕ)) (first bytes : List ℕ) →
    mid ≡ told_with old first →
    TakesPrefix mid new bytes →
    TakesPrefix old new (first ++ bytes)
TakesPrefix-after old mid new first bytes e (prefix, rest, h) = (
  first ++ prefix,
  rest,
  record {
    whole = append_assoc first prefix rest ∙ ap (λ xs. first ++ xs) h.whole;
    added = told_with-next old mid new first prefix e h.added;
  },
)

-- a proper prefix is a prefix
pub TakesPrefix-proper : (old new : Option (List ℕ)) (bytes : List ℕ) → TakesProperPrefix old new bytes → TakesPrefix old new bytes
TakesPrefix-proper old new bytes (prefix, rest, h, left) = (prefix, rest, h)

-- the same for proper prefixes
not_nil : (xs ys : List ℕ) → (xs ≡ [] → ⊥) → xs ++ ys ≡ [] → ⊥
not_nil [] ys left e = left refl
not_nil (x ∷ xs) ys left e = absurd cc

pub TakesProperPrefix-more : (old new : Option (List ℕ)) (bytes more : List ℕ) → TakesProperPrefix old new bytes → TakesProperPrefix old new (bytes ++ more)
TakesProperPrefix-more old new bytes more (prefix, rest, h, left) = (
  prefix,
  rest ++ more,
  record { whole = sym (append_assoc prefix rest more) ∙ ap (λ xs. xs ++ more) h.whole; added = h.added },
  not_nil rest more left,
)

pub TakesProperPrefix-after : (old mid new : Option (List ℕ)) (first bytes : List ℕ) → mid ≡ told_with old first → TakesProperPrefix mid new bytes → TakesProperPrefix old new (first ++ bytes)
TakesProperPrefix-after old mid new first bytes e (prefix, rest, h, left) = (
  first ++ prefix,
  rest,
  record {
    whole = append_assoc first prefix rest ∙ ap (λ xs. first ++ xs) h.whole;
    added = h.added ∙ ap (λ t. told_with t prefix) e ∙ told_with-append old first prefix;
  },
  left,
)
