-- The options that words are: each as `--name value` or as `--name=value`.
use Rattle.std.specs.Prelude.{ℕ, ◌==◌, nat_lt, nat_le, List, [], ◌∷◌, length, Bool, true, false, not, ◌&&◌, Option, Some, None, find, option_map, if◌then◌else◌, bytes_eq}
use Rattle.std.specs.List.{list_all, list_any, before_first, after_first}
use Rattle.std.specs.Char.{is_ascii_digit}
use Rattle.std.specs.Str.Parse.{digits_value}

-- an option: its name with the two dashes, and its value
pub record GivenOption : Type 0 where
  pub name : List ℕ
  pub value : List ℕ

abbrev pub is_equals : ℕ → Bool
is_equals b = b == 61

abbrev pub has_equals : List ℕ → Bool
has_equals word = list_any is_equals word

-- a word that may be a value by itself: it is not empty and does not begin with `-`
abbrev pub is_value : List ℕ → Bool
is_value [] = false
is_value (b ∷ word) = not (b == 45)

-- an option before others; no value is empty
abbrev pub with_option : List ℕ → List ℕ → Option (List GivenOption) → Option (List GivenOption)
with_option name [] more = None
with_option name (b ∷ value) more = option_map (λ others. record { name = name; value = b ∷ value } ∷ others) more

-- the options that words are, behind a name that still waits for its value, or not
abbrev pub options_behind : Option (List ℕ) → List (List ℕ) → Option (List GivenOption)
options_behind None [] = Some []
options_behind (Some name) [] = None
options_behind None (word ∷ more) =
    if has_equals word then with_option (before_first is_equals word) (after_first is_equals word) (options_behind None more)
    else options_behind (Some word) more
options_behind (Some name) (word ∷ more) = if is_value word then with_option name word (options_behind None more) else None

unfoldable pub options_in : List (List ℕ) → Option (List GivenOption)
options_in words = options_behind None words

-- the value of an option, where it is given
abbrev pub is_named : List ℕ → GivenOption → Bool
is_named name option = bytes_eq option.name name

unfoldable pub value_of : List ℕ → List GivenOption → Option (List ℕ)
value_of name options = option_map (λ o. o.value) (find (is_named name) options)

-- each option has one of these names, and no two have the same
abbrev pub is_among : List (List ℕ) → GivenOption → Bool
is_among names option = list_any (λ name. bytes_eq option.name name) names

abbrev pub are_once : List GivenOption → Bool
are_once [] = true
are_once (option ∷ more) = not (list_any (is_named option.name) more) && are_once more

unfoldable pub are_allowed : List (List ℕ) → List GivenOption → Bool
are_allowed names options = list_all (is_among names) options && are_once options

-- the number that a text of 1 to 20 decimal digits is, where it is in a range
abbrev pub is_number : List ℕ → Bool
is_number text = nat_lt 0 (length text) && nat_le (length text) 20 && list_all is_ascii_digit text

abbrev pub in_range : ℕ → ℕ → ℕ → Option ℕ
in_range least greatest n = if nat_le least n && nat_le n greatest then Some n else None

unfoldable pub number_in : ℕ → ℕ → List ℕ → Option ℕ
number_in least greatest text = if is_number text then in_range least greatest (digits_value 10 text) else None
