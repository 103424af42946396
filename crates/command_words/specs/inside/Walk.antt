-- Words read from the front, one option after another.
use Rattle.std.specs.Prelude.{ℕ, List, [], ◌∷◌, Option, Some, None, if◌then◌else◌}
use Rattle.std.specs.List.{before_first, after_first}
use Rattle.command_words.specs.Options.{GivenOption, is_equals, has_equals, is_value}

-- an option, and the words behind it
pub record Front : Type 0 where
  pub option : GivenOption
  pub rest : List (List ℕ)

-- an option where its value is not empty
abbrev pub front_of : List ℕ → List ℕ → List (List ℕ) → Option Front
front_of name [] rest = None
front_of name (b ∷ value) rest = Some (record { option = record { name = name; value = b ∷ value }; rest = rest })

-- an option whose value is the next word
abbrev pub front_behind : List ℕ → List (List ℕ) → Option Front
front_behind name [] = None
front_behind name (word ∷ more) = if is_value word then front_of name word more else None

-- the option in front of words
abbrev pub front : List (List ℕ) → Option Front
front [] = None
front (word ∷ more) =
    if has_equals word then front_of (before_first is_equals word) (after_first is_equals word) more
    else front_behind word more

-- an option before others, where its value is not empty
abbrev pub given_before : List ℕ → List ℕ → List GivenOption → List GivenOption
given_before name [] more = []
given_before name (b ∷ value) more = record { name = name; value = b ∷ value } ∷ more

-- the options up to the first word that is none, behind a name that still waits for its value, or not
abbrev pub given_behind : Option (List ℕ) → List (List ℕ) → List GivenOption
given_behind None [] = []
given_behind (Some name) [] = []
given_behind None (word ∷ more) =
    if has_equals word then given_before (before_first is_equals word) (after_first is_equals word) (given_behind None more)
    else given_behind (Some word) more
given_behind (Some name) (word ∷ more) = if is_value word then given_before name word (given_behind None more) else []

unfoldable pub given_in : List (List ℕ) → List GivenOption
given_in words = given_behind None words
