-- Search patterns are those of the crate regex: its grammar decides which texts are patterns, and a pattern nests at most
-- 250 deep.
use Rattle.std.specs.Prelude.{◌≡◌, ◌≤◌, ◌<◌, ℕ, List, All, Bool, Option, Some, None, Result, IfErr, is_some, nat_le, if◌then◌else◌, option_and_then, option_map, chars}
use Rattle.kumo_base.specs.Causes.{Rose}
use Rattle.regex.specs.Patterns.{Re, find_str, default_config}
use Rattle.regex.specs.Strings.{regex_pattern}
use Rattle.regex.specs.declared.string.regex.Regex.{Regex}
use Rattle.regex_syntax.specs.Brackets.{Nested}
use Rattle.regex_syntax.specs.Grammar.{Names, read}
use Rattle.kumo_outside.specs.declared.search.SearchFault as SearchFault
use Rattle.kumo_outside.specs.Limits.{pattern_depth_limit}

-- what a search shows: the faults counted so far
pub record SearchSeen : Type 0 where
  pub faults : ℕ

-- what was read, where it nests no deeper than the limit
abbrev pub within_limit : Option (Nested Re × Names) → Option Re
within_limit = option_and_then (λ p. if nat_le p.0.depth pattern_depth_limit then Some p.0.value else None)

-- the pattern that the grammar reads in the text, where it nests within the limit
unfoldable pub pattern_in : List ℕ → Option Re
pattern_in source = within_limit (read default_config (chars source))

-- whether the text is a pattern
unfoldable pub is_pattern : List ℕ → Bool
is_pattern source = is_some (pattern_in source)

-- whether the pattern is found in the text; None where it is no pattern
unfoldable pub found : List ℕ → List ℕ → Option Bool
found source text = option_map (λ re. is_some (find_str re text 0)) (pattern_in source)

-- the count of faults does not fall, and a call that answers the fault Search raised it
pub record HasSearchCause {T : Type 0} (before now : ℕ) (result : Result T SearchFault.SearchFault) : Type 0 where
  pub later : before ≤ now
  pub failed : IfErr result (λ fault. fault ≡ SearchFault.TheVariants.Search → Rose before now)

-- a search by this regex finds in a text what the pattern finds there
abbrev pub IsCompiledFrom : List ℕ → Regex → Type 0
IsCompiledFrom source regex =
    (text : List ℕ) → All (λ byte. byte < 256) text → found source text ≡ Some (is_some (find_str (regex_pattern regex) text 0))
