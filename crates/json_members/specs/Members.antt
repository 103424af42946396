-- What lines of JSON have in common: ids as they are printed, members that may be absent, and the line of one value.
use Rattle.std.specs.Prelude.{ℕ, List, [], ◌∷◌, ◌++◌, Option, Some, None}
use Rattle.std.specs.Int.{w128, to_be_bytes}
use Rattle.serde_json.specs.Data.{Data, number, unsigned, string, Members, member, put}
use Rattle.serde_json.specs.Written.{compact_text}
use Rattle.uuid.specs.Text.{hyphenated_text, lower}

-- an id as it is printed, in lower case with hyphens
unfoldable pub id_text : ℕ → List ℕ
id_text id = hyphenated_text lower (to_be_bytes w128 id)

abbrev pub whole_number : ℕ → Data
whole_number n = number (unsigned n)

-- a text that is given, before the members that come after it
abbrev pub given_member : List ℕ → Option (List ℕ) → Members → Members
given_member key None later = later
given_member key (Some text) later = member key (string text) later

-- the members, with a text at a key where it is given
abbrev pub with_given : List ℕ → Option (List ℕ) → Members → Members
with_given key None ms = ms
with_given key (Some text) ms = put key (string text) ms

-- the line of a value, with its line feed
abbrev pub json_line : Data → List ℕ
json_line d = compact_text d ++ 10 ∷ []
