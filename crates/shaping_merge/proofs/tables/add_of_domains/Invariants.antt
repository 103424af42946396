use Rattle.std.proofs.Common.{◌≡◌, ◌++◌, map, drop}
use Rattle.shaping_merge.proofs.tables.add_of_domains.Given as goal

abbrev pub invariant-loop-shape : goal.invariant-loop-shape
invariant-loop-shape l =
    map (λ table. table.now) l.tables.items ++ map (λ d. d.table) (map (λ d. d.now) (drop l.shape-index l.domains))
    ≡ map (λ table. table.now) l.fn.tables.items ++ map (λ d. d.table) (map (λ d. d.now) l.domains)
