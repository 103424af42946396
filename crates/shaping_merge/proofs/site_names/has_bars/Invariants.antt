use Rattle.std.proofs.Common.{◌≡◌, bytes_eq, drop}
use Rattle.policy_core.specs.Site.{with_bars}
use Rattle.shaping_merge.proofs.site_names.has_bars.Given as goal

abbrev pub invariant-loop-text : goal.invariant-loop-text
invariant-loop-text l = bytes_eq (with_bars (drop l.text-index l.texts)) l.rest ≡ bytes_eq (with_bars l.texts) l.bytes
