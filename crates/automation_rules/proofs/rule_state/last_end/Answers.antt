use Rattle.std.proofs.Common.{◌≡◌, ◌<◌, ◌-◌, length, get_or, deque_len, ap, ◌∙◌, rules}
use Rattle.automation_rules.proofs.FiringLemmas.{last_end_is}
use Rattle.automation_rules.proofs.rule_state.last_end.Goals as goal

pub returns-in-Some : goal.returns-in-Some
returns-in-Some c =
    let items = c.args.firings.now.items in
    let some : 0 < length items = search rules in
    let long : deque_len c.args.firings.now ≡ length items = search rules in
    last_end_is items c.in-Some.last.now some (c.in-Some.ensures.lookup ∙ ap (λ n. get_or items (n - 1) c.in-Some.last.now) long)
