use Rattle.std.proofs.Common.{◌≡◌, ◌++◌, map, drop}
use Rattle.shaping_merge.proofs.domains.add_of_shapes.Given as goal

abbrev pub invariant-loop-shape : goal.invariant-loop-shape
invariant-loop-shape l =
    map (λ domain. domain.now) l.domains.items ++ map (λ d. d.domain) (map (λ shape. shape.now) (drop l.shape-index l.shapes))
    ≡ map (λ domain. domain.now) l.fn.domains.items ++ map (λ d. d.domain) (map (λ shape. shape.now) l.shapes)
