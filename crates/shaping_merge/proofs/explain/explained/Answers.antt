-- The two first lines, the options and the rules, one behind the other.
use Rattle.std.proofs.Common.{◌≡◌, ◌∙◌, ap, List, ℕ, [], ◌++◌, codes}
use Rattle.policy_core.specs.PathOptions.{in_force_of}
use Rattle.shaping_merge.specs.ExplainText.{line, option_lines, rule_lines, explained}
use Rattle.shaping_merge.proofs.ExplainLemmas.{behind}
use Rattle.shaping_merge.proofs.explain.explained.Goals as goal

pub returns : goal.returns
unfolding explained
returns c =
    let site : c.push_line.new.text ≡ [] ++ line (codes "site") c.args.site.now.name =
    c.in_ok-push_line.ensures ∙ ap (λ (before : List ℕ). before ++ line (codes "site") c.as_str.result.now) c.new-text.ensures
    ∙ ap (line (codes "site")) c.as_str.ensures in
    let options : c.push_options.new.text ≡ c.push_line-2.new.text ++ option_lines (in_force_of c.args.base.now.options) =
    c.in_ok-push_options.ensures ∙ ap (λ options. c.push_line-2.new.text ++ option_lines options) c.of.ensures in
    let rules : c.push_rules.new.text ≡ c.push_options.new.text ++ rule_lines 1 c.args.base.now.rules =
    c.in_ok-push_rules.ensures ∙ ap (λ rules. c.push_options.new.text ++ rule_lines 1 rules) c.as_slice.ensures in
    behind [] c.push_line.new.text _ _ _ site
    (behind c.push_line.new.text c.push_line-2.new.text _ _ _ c.in_ok-push_line-2.ensures
    (behind c.push_line-2.new.text c.push_options.new.text _ _ _ options rules))
