use Rattle.std.proofs.Common.{◌≡◌, ◌+◌, ◌++◌, map, drop}
use Rattle.toml.specs.View.{items_view}
use Rattle.shaping_policy.specs.inside.TextPlaces.{seen_place}
use Rattle.shaping_policy.specs.Faults.{text_places_from}
use Rattle.shaping_policy.proofs.text_places.add_items.Given as goal

abbrev pub invariant-loop-index : goal.invariant-loop-index
invariant-loop-index l =
    map seen_place l.places.items ++ text_places_from l.rule.place l.rule.number (l.index + 1) (items_view (drop l.index l.items))
    ≡ map seen_place l.fn.places.items ++ text_places_from l.rule.place l.rule.number 1 (items_view l.items)
