-- What is read of a text of which no more than so many bytes are wanted.
use Rattle.std.specs.Prelude.{◌≡◌, ℕ, ◌<◌, ◌⊎◌, List, length}

-- the whole text, or more than the limit of a text that has more
pub record HasMore (limit : ℕ) (text read : List ℕ) : Type 0 where
  pub read_more : limit < length read
  pub has_more : limit < length text

abbrev pub IsReadUpTo : ℕ → List ℕ → List ℕ → Type 0
IsReadUpTo limit text read = (read ≡ text) ⊎ HasMore limit text read
