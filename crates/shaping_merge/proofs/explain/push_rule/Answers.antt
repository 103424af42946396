-- The pieces of a rule's line, one behind the other.
use Rattle.std.proofs.Common.{◌≡◌, ◌∙◌, ap, List, ℕ, ◌++◌}
use Rattle.shaping_merge.specs.ExplainText.{patterns_text}
use Rattle.shaping_merge.proofs.ExplainLemmas.{behind}
use Rattle.shaping_merge.proofs.explain.push_rule.Goals as goal

pub returns : goal.returns
returns c =
    let patterns : c.as_str.result.now ≡ patterns_text c.args.rule.now.patterns = c.as_str.ensures ∙ c.in_ok-patterns.ensures ∙ ap patterns_text c.as_slice.ensures in
    behind c.args.text.now c.push_str.new.self _ _ _ c.in_ok-push_str.ensures.ok
    (behind c.push_str.new.self c.push_number.new.text _ _ _ c.in_ok-push_number.ensures
    (behind c.push_number.new.text c.push_str-2.new.self _ _ _ c.in_ok-push_str-2.ensures.ok
    (behind c.push_str-2.new.self c.push_action.new.text _ _ _ c.in_ok-push_action.ensures
    (behind c.push_action.new.text c.push_str-3.new.self _ _ _ c.in_ok-push_str-3.ensures.ok
    (behind c.push_str-3.new.self c.push_trigger.new.text _ _ _ c.in_ok-push_trigger.ensures
    (behind c.push_trigger.new.text c.push_str-4.new.self _ _ _ c.in_ok-push_str-4.ensures.ok
    (behind c.push_str-4.new.self c.push_number-2.new.text _ _ _ c.in_ok-push_number-2.ensures
    (behind c.push_number-2.new.text c.push_str-5.new.self _ _ _ c.in_ok-push_str-5.ensures.ok
    (behind c.push_str-5.new.self c.push_str-6.new.self _ _ _ (c.in_ok-push_str-6.ensures.ok ∙ ap (λ (text : List ℕ). c.push_str-5.new.self ++ text) patterns)
    c.in_ok-push_str-7.ensures.ok)))))))))
