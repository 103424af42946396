-- What an object of the outside tells of its bytes: Some of them, or None where it tells nothing, as a real file.
use Rattle.std.specs.Prelude.{◌≡◌, ℕ, ◌≤◌, List, [], ◌++◌, length, take, drop, Option, Some, None}

-- the told bytes with these behind; what is not told stays untold
unfoldable pub told_with : Option (List ℕ) → List ℕ → Option (List ℕ)
told_with None more = None
told_with (Some told) more = Some (told ++ more)

-- of these bytes a prefix was added, and the rest was not
pub record AddsPrefix (old new : Option (List ℕ)) (bytes prefix rest : List ℕ) : Type 0 where
  pub whole : prefix ++ rest ≡ bytes
  pub added : new ≡ told_with old prefix

-- what a sink shows: the bytes taken so far, where they are told, and the faults counted so far
pub record SinkSeen : Type 0 where
  pub told : Option (List ℕ)
  pub faults : ℕ

-- what texts show: the bytes of the text of a name, where they are told, and the faults counted so far
pub record TextsSeen : Type 0 where
  pub told : List ℕ → Option (List ℕ)
  pub faults : ℕ

-- some prefix of these bytes was added, perhaps all of them
abbrev pub TakesPrefix : Option (List ℕ) → Option (List ℕ) → List ℕ → Type 0
TakesPrefix old new bytes = (prefix : List ℕ) × (rest : List ℕ) × AddsPrefix old new bytes prefix rest

-- some prefix of these bytes was added, and something of them was not
abbrev pub TakesProperPrefix : Option (List ℕ) → Option (List ℕ) → List ℕ → Type 0
TakesProperPrefix old new bytes =
    (prefix : List ℕ) × (rest : List ℕ) × AddsPrefix old new bytes prefix rest × (rest ≡ [] → ⊥)

-- the first n bytes of the buffer are those of the text from a place on; none only at its end
pub record Places (text : List ℕ) (at n : ℕ) (buffer : List ℕ) : Type 0 where
  pub placed : take n buffer ≡ take n (drop at text)
  pub within : n ≤ length (drop at text)
  pub at_end : n ≡ 0 → length text ≤ at
