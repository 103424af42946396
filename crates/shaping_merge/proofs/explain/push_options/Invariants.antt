-- The text so far and the lines of the options that are left.
use Rattle.std.proofs.Common.{◌≡◌, ◌++◌, drop}
use Rattle.std.specs.List.{flat_map}
use Rattle.shaping_merge.specs.ExplainText.{option_line}
use Rattle.shaping_merge.proofs.explain.push_options.Given as goal

abbrev pub invariant-loop-name : goal.invariant-loop-name
invariant-loop-name l =
    l.text ++ flat_map (option_line l.options) (drop l.name-index l.names) ≡ l.fn.text ++ flat_map (option_line l.options) l.names
