-- Whether a byte stands in a list, and what stands around the first one.
use Rattle.std.proofs.Common.{◌≡◌, ◌<◌, ℕ, List, true, false, ◌==◌, length, Option, Some, None, MatchOption, sym, arith}
use Rattle.std.proofs.lemmas.List.Elements.{All-from_get_or}
use Rattle.std.proofs.lemmas.List.Folds.{list_any_at, list_any_none}
use Rattle.std.proofs.lemmas.List.Sums.{fails_before_first, passes_at_first}
use Rattle.std.proofs.lemmas.Str.Pattern.{split_once_first, IsSplitOnceResult}
use Rattle.std.specs.List.{list_any, before_first, after_first, position_or_len}
use denote.Ref.{Bor}

-- where the first such byte stands nowhere, there is none
pub none_at : (c : ℕ) (xs : List ℕ) → position_or_len (λ b. b == c) xs ≡ length xs → list_any (λ b. b == c) xs ≡ false
none_at c xs is =
    list_any_none (λ b. b == c) xs
    (All-from_get_or (λ b. (b == c) ≡ false) xs 0 (λ k l. fails_before_first (λ b. b == c) xs k 0 (omega (arith, is))))

-- where it stands within, there is one
pub one_at : (c : ℕ) (xs : List ℕ) → position_or_len (λ b. b == c) xs < length xs → list_any (λ b. b == c) xs ≡ true
one_at c xs within =
    list_any_at (λ b. b == c) xs (position_or_len (λ b. b == c) xs) 0 within (passes_at_first (λ b. b == c) xs 0 within)

-- takes the clause of `split_once` at an ASCII byte
pub around_is : (c : ℕ) (bs : List ℕ) (r : Option (Bor (List ℕ) × Bor (List ℕ))) → c < 128 → IsSplitOnceResult c bs r
    → MatchOption r (list_any (λ b. b == c) bs ≡ false)
    (λ p. (list_any (λ b. b == c) bs ≡ true)
    × (before_first (λ b. b == c) bs ≡ p.0.now)
    × (after_first (λ b. b == c) bs ≡ p.1.now))
around_is c bs None ascii h = none_at c bs (split_once_first c bs None h ascii)
around_is c bs (Some x) ascii h =
    let parts = split_once_first c bs (Some x) h ascii in
    (one_at c bs parts.0, sym parts.1, sym parts.2)
