-- The values of all patterns are the items of the list.
use Rattle.std.proofs.Common.{◌≡◌, ◌∙◌, ap, List, map, arith, rules}
use Rattle.std.proofs.lemmas.Grind.{common_steps}
use Rattle.serde_json.specs.Data.{Data, array, string}
use Rattle.serde_json.specs.View.{view, items_of}
use Rattle.serde_json.specs.declared.value.Value.{the_lemmas}
use Rattle.serde_json.specs.declared.value.Value as value
use Rattle.shaping_merge.proofs.ExplainLemmas.{items_of_patterns}
use Rattle.shaping_merge.proofs.explain.pattern_list.Goals as goal

pub returns : goal.returns
returns c =
    let values = c.loop-pattern.values in
    let all : map view values.items ≡ map string c.args.patterns.now = grind (arith, common_steps) in
    let opened : view (value.Array values) ≡ array (items_of (map view values.items)) = search (rules, the_lemmas) in
    opened ∙ ap (λ (items : List Data). array (items_of items)) all ∙ ap array (items_of_patterns c.args.patterns.now)
