use Rattle.std.proofs.Common.{◌≡◌, []}
use Rattle.toml.specs.View.{members_view}
use Rattle.shaping_policy.specs.ShapingFile.{with_domains}
use Rattle.shaping_policy.proofs.shaping.all_domains.Given as goal

abbrev pub invariant-loop-key : goal.invariant-loop-key
invariant-loop-key l =
    (goal.iterator-loop-key).can_next l.key-iterator ×
    (goal.iterator-loop-key).is_finite l.key-iterator ×
    (with_domains l.domains.items (members_view l.key-iterator) ≡ with_domains [] (members_view l.document.entries))
