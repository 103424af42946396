-- The matches of providers as the code finds them in a value: what is to end so, and the text as it is spelled.
use Rattle.std.specs.Prelude.{ℕ, List}
use Rattle.std.specs.Str.{str_to_ascii_lowercase}
use Rattle.policy_core.specs.declared.shaping.Match.{Match}
use Rattle.policy_core.specs.declared.shaping.Match.TheVariants as kind
use Rattle.shaping_policy.specs.declared.rule_values.SuffixKind.{SuffixKind}
use Rattle.shaping_policy.specs.declared.rule_values.SuffixKind.TheVariants.{Hosts, Domains}

-- the match of a text, which counts in lower case
abbrev pub match_of : SuffixKind → List ℕ → Match
match_of Hosts text = kind.MxSuffix (str_to_ascii_lowercase text)
match_of Domains text = kind.DomainSuffix (str_to_ascii_lowercase text)
