-- Firings, match by match.
use Rattle.std.proofs.Common.{◌≡◌, ◌∙◌, ap, ℕ, ◌+◌, List, [], ◌∷◌, ◌++◌, Bool, map, filter, count_by}
use Rattle.std.proofs.lemmas.List.{map-append}
use Rattle.std.proofs.lemmas.List.Elements.{filter-append}
use Rattle.std.proofs.lemmas.List.Sums.{sum_by-append}
use Rattle.history_core.specs.declared.rule_match.RuleMatch.{RuleMatch}
use Rattle.history_core.specs.Firing.{is_same_rule, moments_with}

-- the moments so far are those of each part, and its own
pub counted_parts : (test : ℕ → Bool) (before earlier : List RuleMatch) (m : RuleMatch)
    → count_by test (moments_with (before ++ earlier) m)
    ≡ (count_by test (map (λ (was : RuleMatch). was.at) (filter (is_same_rule m) before)) + count_by test (map (λ (was : RuleMatch). was.at) (filter (is_same_rule m) earlier)))
    + count_by test (m.at ∷ [])
counted_parts test before earlier m =
    let at : RuleMatch → ℕ = λ was. was.at in
    let here = filter (is_same_rule m) before in
    let there = filter (is_same_rule m) earlier in
    sum_by-append _ (map at (filter (is_same_rule m) (before ++ earlier))) (m.at ∷ [])
    ∙ ap (λ ms. count_by test (map at ms) + count_by test (m.at ∷ [])) (filter-append (is_same_rule m) before earlier)
    ∙ ap (λ ms. count_by test ms + count_by test (m.at ∷ [])) (map-append at here there)
    ∙ ap (λ n. n + count_by test (m.at ∷ [])) (sum_by-append _ (map at here) (map at there))
