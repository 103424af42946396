use Rattle.std.proofs.Common.{◌≡◌, ◌++◌, drop}
use Rattle.policy_core.specs.Site.{with_bars}
use Rattle.shaping_merge.proofs.sites.push_with_bars.Given as goal

abbrev pub invariant-loop-text : goal.invariant-loop-text
invariant-loop-text l = l.name ++ with_bars (drop l.text-index l.texts) ≡ l.fn.name ++ with_bars l.texts
