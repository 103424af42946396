use Rattle.std.proofs.Common.{◌≡◌, false, is_ok}
use Rattle.toml.specs.View.{view}
use Rattle.shaping_policy.specs.RuleValues.{pattern_at}
use Rattle.shaping_policy.proofs.PatternLemmas.{no_pattern}
use Rattle.shaping_policy.proofs.patterns.note_pattern.Goals as goal

pub returns-clause-ok : goal.returns-clause-ok
returns-clause-ok g c =
    let refused : is_ok (pattern_at (view c.args.value.now)) ≡ false = rw (← c.in_ok-is_pattern.ensures.read) c.if-branch.false in
    rw (no_pattern _ _ _ _ _ refused) c.note_text.ensures.ok
