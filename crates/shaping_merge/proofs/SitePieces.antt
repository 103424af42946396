-- What stands behind the front of bytes.
use Rattle.std.proofs.Common.{◌≡◌, refl, sym, ap, ◌∙◌, ℕ, ◌+◌, List, ◌++◌, length, take, drop, Bool, true, false, Option, Some, None, bytes_eq, Bor}
use Rattle.std.specs.Prelude.{MatchOption, nat_eq}
use Rattle.std.specs.Cmp.Lexicographic.{pointwise}
use Rattle.std.proofs.lemmas.Bool.Decides.{Decides-eqb}
use Rattle.std.proofs.lemmas.List.{append_cancel_left}
use Rattle.std.proofs.lemmas.Slice.Eq.{bytes_eq-Decides, strip_prefix_is}

false_where : (b : Bool) → (b ≡ true → ⊥) → b ≡ false
false_where true never = absurd (never refl)
false_where false never = refl

same_where : (a b : Bool) → (a ≡ true → b ≡ true) → (b ≡ true → a ≡ true) → a ≡ b
same_where true b there back = sym (there refl)
same_where false true there back = back refl
same_where false false there back = refl

-- behind a common front the tails decide
cancel : (front a b : List ℕ) → bytes_eq (front ++ a) (front ++ b) ≡ bytes_eq a b
cancel front a b =
    let whole = bytes_eq-Decides (front ++ a) (front ++ b) in
    let tails = bytes_eq-Decides a b in
    same_where _ _ (λ e. tails.1 (append_cancel_left front a b (whole.0 e))) (λ e. whole.1 (ap (λ t. front ++ t) (tails.0 e)))

-- what stands behind a front, for whatever comes behind it
abbrev pub IsBehind : List ℕ → List ℕ → Option (Bor (List ℕ)) → Type 0
IsBehind front bytes rest =
    MatchOption rest ((tail : List ℕ) → bytes_eq (front ++ tail) bytes ≡ false) (λ r. (tail : List ℕ) → bytes_eq (front ++ tail) bytes ≡ bytes_eq tail r.now)

behind_by : (front bytes : List ℕ) (rest : Option (Bor (List ℕ)))
    → MatchOption rest ((r : List ℕ) → bytes ≡ front ++ r → ⊥) (λ r. bytes ≡ front ++ r.now) → IsBehind front bytes rest
behind_by front bytes None never = λ tail. false_where _ (λ e. never tail (sym ((bytes_eq-Decides (front ++ tail) bytes).0 e)))
behind_by front bytes (Some r) is = λ tail. ap (bytes_eq (front ++ tail)) is ∙ cancel front tail r.now

pub behind_is : (front bytes : List ℕ) (rest : Option (Bor (List ℕ)))
    → MatchOption rest (pointwise nat_eq (take (length front) bytes) front ≡ false) (λ x. (pointwise nat_eq (take (length front) bytes) front ≡ true) × (x.now ≡ drop (length front) bytes) × (length x.now + length front ≡ length bytes))
    → IsBehind front bytes rest
behind_is front bytes rest is = behind_by front bytes rest (strip_prefix_is Decides-eqb bytes front rest is)
