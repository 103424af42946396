-- What the devices with chosen faults are seen as.
use Rattle.std.specs.Prelude.{ℕ, ◌+◌, ◌-◌, ◌^◌, ◌==◌, min, List, [], ◌∷◌, Bool, Option, Some, None, if◌then◌else◌, bytes_eq}
use Rattle.std.specs.List.{list_any}

-- names with their bytes, the numbers of the calls that are to fail, the calls made and the faults counted
pub record TextShelf : Type 0 where
  pub texts : List (List ℕ × List ℕ)
  pub failing : List ℕ
  pub calls : ℕ
  pub faults : ℕ

pub record ByteSink : Type 0 where
  pub bytes : List ℕ
  pub failing : List ℕ
  pub calls : ℕ
  pub faults : ℕ

-- the same of a search, which keeps nothing else
pub record SearchState : Type 0 where
  pub failing : List ℕ
  pub calls : ℕ
  pub faults : ℕ

-- the first text of that name
abbrev pub text_at : List (List ℕ × List ℕ) → List ℕ → Option (List ℕ)
text_at [] name = None
text_at (t ∷ more) name = if bytes_eq t.0 name then Some t.1 else text_at more name

-- the k-th call is one that is to fail
abbrev pub is_failing : List ℕ → ℕ → Bool
is_failing failing k = list_any (λ n. n == k) failing

-- a count of calls or faults after one more; it stands still at the last value of its type
abbrev pub one_more : ℕ → ℕ
one_more count = min (count + 1) (2 ^ 64 - 1)
