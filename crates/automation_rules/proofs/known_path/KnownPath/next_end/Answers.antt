use Rattle.std.proofs.Common.{◌<◌, ◌+◌, ◌||◌, ◌∙◌, ℕ, Bool, ap, sym, length, nat_le, filter, drop, rules}
use Rattle.std.specs.List.{list_any, enumerate_from}
use Rattle.policy_core.specs.Automation.{numbered_rules}
use Rattle.automation_rules.specs.Memory.{is_live}
use Rattle.automation_rules.specs.inside.Noting.{is_by}
use Rattle.automation_rules.specs.inside.Showing.{firings_at, ends_by}
use Rattle.automation_rules.proofs.AnyLemmas.{any_number, or_more}
use Rattle.automation_rules.proofs.known_path.KnownPath.next_end.Goals as goal

pub loop-place-preserved : goal.loop-place-preserved
loop-place-preserved c u =
    let base = c.args.self.now.base in
    let place = c.loop-place.place in
    let below : place < length base.rules = search rules in
    let ends : ℕ → Bool = λ number. list_any (λ f. nat_le f.end u) (filter (is_live c.args.t) (firings_at c.args.self.now.rules number)) in
    let test = ends_by c.args.t u (firings_at c.args.self.now.rules) in
    let rest = list_any test (enumerate_from (place + 1 + 1) (drop (place + 1) base.rules)) in
    let before = is_by u c.loop-place.least in
    or_more before (ends (place + 1)) rest (list_any test (numbered_rules base)) (c.loop-place.invariant u ∙ ap (λ b. before || b) (any_number ends (place + 1) place base.rules below))
    ∙ ap (λ b. b || rest) (sym (c.earlier-least.ensures u ∙ ap (λ b. before || b) (c.next_end_by.ensures u)))
