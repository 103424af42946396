use Rattle.std.proofs.Common.{◌≡◌, ◌==◌, length, false}
use Rattle.shaping_policy.specs.RuleValues.{pattern_at}
use Rattle.policy_fault.specs.declared.fault.Why.TheVariants.{BadType}
use Rattle.shaping_policy.proofs.PatternLemmas.{listed}
use Rattle.shaping_policy.proofs.patterns.note_list.Goals as goal

pub returns-clause-ok : goal.returns-clause-ok
returns-clause-ok g c =
    let some : (length c.args.items.now == 0) ≡ false = rw (← c.is_empty.ensures) c.if-is_empty.false in
    rw (listed pattern_at BadType _ _ _ _ some) c.note_items.ensures.ok
