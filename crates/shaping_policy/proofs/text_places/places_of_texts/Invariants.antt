use Rattle.std.proofs.Common.{◌≡◌, ◌++◌, map, drop}
use Rattle.std.specs.List.{flat_map}
use Rattle.shaping_policy.specs.inside.Seen.{seen_rule}
use Rattle.shaping_policy.specs.inside.TextPlaces.{seen_place}
use Rattle.shaping_policy.specs.Faults.{text_places}
use Rattle.shaping_policy.proofs.text_places.places_of_texts.Given as goal

abbrev pub invariant-loop-rule : goal.invariant-loop-rule
invariant-loop-rule l =
    map seen_place l.places.items ++ flat_map text_places (map seen_rule (drop l.rule-index l.rules))
    ≡ flat_map text_places (map seen_rule l.rules)
