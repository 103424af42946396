-- From what the crate regex ensures to the words on searches.
use Rattle.std.proofs.Common.{◌≡◌, ◌≢◌, ◌⊎◌, ◌<◌, ◌≤◌, ℕ, List, All, true, false, Option, Some, None, IsSomeAnd, IfSome, is_some, option_map, length, chars, refl, sym, ap, ◌∙◌, ⊎_elim, le-leb, arith}
use Rattle.std.proofs.lemmas.Bool.Decides.{nat_tests}
use Rattle.regex_hir.specs.Meaning.{meaning}
use Rattle.regex_hir.specs.declared.hir.Hir.{Hir}
use Rattle.regex.specs.Patterns.{Re, find_str, SameCaptures, default_config, Reads, Refuses}
use Rattle.regex_syntax.specs.Brackets.{Nested}
use Rattle.regex_syntax.specs.Grammar.{Names, group_count, read}
use Rattle.regex_syntax.specs.declared.error.ErrorKind.{ErrorKind}
use Rattle.regex_syntax.specs.declared.error.ErrorKind.TheVariants.{OutOfMemory, NestLimitExceeded}
use Rattle.regex_syntax.proofs.CapturesLemmas.{spans, find_str_alike}
use Rattle.regex_syntax.proofs.Written.{is_some-option_map}
use Rattle.kumo_outside.specs.Limits.{pattern_depth_limit}
use Rattle.kumo_outside.specs.Search.{within_limit, pattern_in, is_pattern, found}

found_by : (o : Option (Nested Re × Names)) (a : Re) (names : Names) (text : List ℕ) → All (λ x. x < 256) text →
    IsSomeAnd o (λ (re, found). (re.depth ≤ pattern_depth_limit) × SameCaptures a re.value × (names ≡ found) × (group_count a ≤ length names)) →
    option_map (λ re. is_some (find_str re text 0)) (within_limit o) ≡ Some (is_some (find_str a text 0))
found_by None a names text bytes p = absurd p
found_by (Some r) a names text bytes p =
    rw (le-leb _ _ p.0) (ap Some (sym (is_some-option_map spans _) ∙ ap is_some (sym (find_str_alike a r.0.value p.1 text bytes 0)) ∙ is_some-option_map spans _))

-- what a search by the tree finds is what the text's pattern finds
pub found-Reads : (source : List ℕ) (hir : Hir) (names : Names) (text : List ℕ) → Reads default_config source hir names → All (λ x. x < 256) text
    → found source text ≡ Some (is_some (find_str (meaning hir) text 0))
unfolding Reads found pattern_in
found-Reads source hir names text p bytes = found_by (read default_config (chars source)) (meaning hir) names text bytes p

pattern_by : (o : Option (Nested Re × Names)) (a : Re) (names : Names) →
    IsSomeAnd o (λ (re, found). (re.depth ≤ pattern_depth_limit) × SameCaptures a re.value × (names ≡ found) × (group_count a ≤ length names)) →
    is_some (within_limit o) ≡ true
pattern_by None a names p = absurd p
pattern_by (Some r) a names p = rw (le-leb _ _ p.0) refl

-- a text that was read is a pattern
pub is_pattern-Reads : (source : List ℕ) (hir : Hir) (names : Names) → Reads default_config source hir names → is_pattern source ≡ true
unfolding Reads is_pattern pattern_in
is_pattern-Reads source hir names p = pattern_by (read default_config (chars source)) (meaning hir) names p

none_by : (o : Option (Nested Re × Names)) (kind : ErrorKind) →
    ((kind ≡ OutOfMemory) ⊎ ((o ≡ None) ⊎ ((kind ≡ NestLimitExceeded) × IfSome o (λ (re, _). pattern_depth_limit < re.depth)))) →
    kind ≢ OutOfMemory → is_some (within_limit o) ≡ false
none_by None kind p other = refl
none_by (Some r) kind p other = ⊎_elim (λ m. absurd (other m)) (λ q. ⊎_elim (λ n. absurd cc) (λ d. let deep : pattern_depth_limit < r.0.depth = d.1 in grind (arith, nat_tests)) q) p

-- a text that was refused, and not for want of memory, is no pattern
pub is_pattern-Refuses : (source : List ℕ) (kind : ErrorKind) → Refuses default_config source kind → kind ≢ OutOfMemory → is_pattern source ≡ false
unfolding Refuses is_pattern pattern_in
is_pattern-Refuses source kind p other = none_by (read default_config (chars source)) kind p other
