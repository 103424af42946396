-- The values so far and the patterns that are left.
use Rattle.std.proofs.Common.{◌≡◌, ◌++◌, map, drop}
use Rattle.serde_json.specs.Data.{string}
use Rattle.serde_json.specs.View.{view}
use Rattle.shaping_merge.proofs.explain.pattern_list.Given as goal

abbrev pub invariant-loop-pattern : goal.invariant-loop-pattern
invariant-loop-pattern l = map view l.values.items ++ map string (drop l.pattern-index l.patterns) ≡ map string l.patterns
