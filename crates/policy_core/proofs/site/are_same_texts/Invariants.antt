use Rattle.std.proofs.Common.{◌≡◌, drop}
use Rattle.policy_core.specs.Site.{are_same_texts}
use Rattle.policy_core.proofs.site.are_same_texts.Given as goal

abbrev pub invariant-loop-place : goal.invariant-loop-place
invariant-loop-place l = are_same_texts (drop l.place l.texts) (drop l.place l.others) ≡ are_same_texts l.texts l.others
