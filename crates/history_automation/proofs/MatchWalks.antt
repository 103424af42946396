-- Matches and firings with one more entry, and the rules of a list that match.
use Rattle.std.proofs.Common.{◌≡◌, ◌∙◌, sym, ap, ℕ, ◌+◌, ◌<◌, ◌≤◌, List, [], ◌∷◌, ◌++◌, Bool, length, get_or, drop, map, filter, append_assoc, append-nil}
use Rattle.std.specs.List.{enumerate_from}
use Rattle.std.proofs.lemmas.List.{drop_more, drop_all, map-append}
use Rattle.std.proofs.lemmas.List.Elements.{filter-append}
use Rattle.policy_core.specs.Policy.{Policy}
use Rattle.policy_core.specs.declared.rules.Rule.{Rule}
use Rattle.history_core.specs.declared.entry.Entry.{Entry}
use Rattle.history_core.specs.declared.rule_match.RuleMatch.{RuleMatch}
use Rattle.history_core.specs.History.{along, along_from}
use Rattle.history_core.specs.Firing.{Refusal, is_matched, matches_at, matches, fired_at, firings}
use Rattle.history_automation.specs.Examined.{Found, IsExamined}
use Rattle.history_automation.specs.inside.Refused.{matches_from}
use Rattle.history_automation.proofs.OneMore.{along-more, along_from-append}

matches_first : (r : Refusal) (n : ℕ) (rule : Rule) (rules : List Rule) → matches_from r n (rule ∷ rules) ≡ matches_from r n (rule ∷ []) ++ matches_from r (n + 1) rules
unfolding matches_from
matches_first r n rule rules =
    let found : ℕ × Rule → RuleMatch = λ rule. record { at = r.at; path = r.path; number = rule.0; rule = rule.1; name = r.name } in
    let test : ℕ × Rule → Bool = λ rule. is_matched r.text rule.1 in
    ap (map found) (filter-append test ((n, rule) ∷ []) (enumerate_from (n + 1) rules))
    ∙ map-append found (filter test ((n, rule) ∷ [])) (filter test (enumerate_from (n + 1) rules))

-- one more rule
pub match_step : (r : Refusal) (rules : List Rule) (i : ℕ) (rule : Rule) (before after all : List RuleMatch) → i < length rules → rule ≡ get_or rules i rule
    → after ≡ before ++ matches_from r (i + 1) (rule ∷ []) → before ++ matches_from r (i + 1) (drop i rules) ≡ all
    → after ++ matches_from r (i + 1 + 1) (drop (i + 1) rules) ≡ all
match_step r rules i rule before after all within here is so_far =
    let rest = drop (i + 1) rules in
    let at : drop i rules ≡ rule ∷ rest = drop_more rules i rule within ∙ ap (λ x. x ∷ rest) (sym here) in
    ap (λ f. f ++ matches_from r (i + 1 + 1) rest) is
    ∙ append_assoc before (matches_from r (i + 1) (rule ∷ [])) (matches_from r (i + 1 + 1) rest)
    ∙ ap (λ m. before ++ m) (sym (matches_first r (i + 1) rule rest))
    ∙ ap (λ xs. before ++ matches_from r (i + 1) xs) (sym at)
    ∙ so_far

-- and none is left
pub match_end : (r : Refusal) (rules : List Rule) (i n : ℕ) (found all : List RuleMatch) → length rules ≤ i
    → found ++ matches_from r n (drop i rules) ≡ all → found ≡ all
unfolding matches_from
match_end r rules i n found all past so_far =
    sym (append-nil found) ∙ ap (λ xs. found ++ matches_from r n xs) (sym (drop_all i rules past)) ∙ so_far

-- one more entry
pub examined_more : (policy : Policy) (h : List Entry) (e : Entry) (was now : Found) (found : List RuleMatch) → IsExamined policy h was
    → found ≡ matches_at policy h e → now.matches ≡ was.matches ++ found
    → now.firings ≡ was.firings ++ along_from fired_at was.matches found → IsExamined policy (h ++ e ∷ []) now
examined_more policy h e was now found known is more fired = record { matches = all_matches; firings = all_firings } where
  both : was.matches ++ found ≡ matches policy (h ++ e ∷ [])
  both =
      ap (λ m. m ++ found) known.matches ∙ ap (λ m. matches policy h ++ m) is ∙ sym (along-more (matches_at policy) h e)

  all_matches : now.matches ≡ matches policy (h ++ e ∷ [])
  all_matches = more ∙ both

  all_firings : now.firings ≡ firings policy (h ++ e ∷ [])
  all_firings =
      fired ∙ ap (λ f. f ++ along_from fired_at was.matches found) (known.firings ∙ sym (ap (along fired_at) known.matches))
      ∙ sym (along_from-append fired_at [] was.matches found) ∙ ap (along fired_at) both
