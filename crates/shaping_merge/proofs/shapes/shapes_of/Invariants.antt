use Rattle.std.proofs.Common.{◌≡◌, ◌++◌, ℕ, List, is_some, map, drop}
use Rattle.std.specs.List.{filter}
use Rattle.std.specs.Option.{option_or}
use Rattle.std.specs.BTreeMap.{get_by_text}
use Rattle.policy_core.specs.Site.{is_at_site}
use Rattle.policy_core.specs.PathTables.{firsts, firsts_but}
use Rattle.shaping_merge.specs.inside.Rollups.{rollup_in}
use Rattle.shaping_merge.proofs.shapes.shapes_of.Given as goal

abbrev pub invariant-loop-shape : goal.invariant-loop-shape
invariant-loop-shape l =
    ((name : List ℕ) → option_or (get_by_text l.rollups name) (rollup_in (drop l.shape-index l.shape-items) name) ≡ rollup_in l.policy.shaping.domains name)
    × (map (λ shape. shape.now) l.at_site.items
    ++ filter (λ d. is_at_site l.policy l.site d.domain) (firsts_but (λ d. d.domain) (λ name. is_some (get_by_text l.rollups name)) (drop l.shape-index l.shape-items))
    ≡ filter (λ d. is_at_site l.policy l.site d.domain) (firsts (λ d. d.domain) l.policy.shaping.domains))
