use Rattle.std.proofs.Common.{◌≡◌, ◌+◌, ◌++◌, drop, map}
use Rattle.toml.specs.View.{items_view}
use Rattle.shaping_policy.specs.inside.Seen.{seen_rule}
use Rattle.shaping_policy.specs.Tables.{rules_from}
use Rattle.shaping_policy.proofs.tables.add_rules.Given as goal

abbrev pub invariant-loop-index : goal.invariant-loop-index
invariant-loop-index l =
    map seen_rule l.rules.items ++ rules_from l.place (l.index + 1) (items_view (drop l.index l.list)) ≡ map seen_rule l.fn.rules.items ++ rules_from l.place 1 (items_view l.list)
