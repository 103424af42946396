use Rattle.std.proofs.Common.{◌≡◌, map, drop}
use Rattle.std.specs.List.{list_any}
use Rattle.policy_core.specs.PathTables.{ends_with}
use Rattle.shaping_merge.proofs.providers.any_ends_with.Given as goal

abbrev pub invariant-loop-domain : goal.invariant-loop-domain
invariant-loop-domain l =
    list_any (ends_with l.suffix) (map (λ domain. domain.now) (drop l.domain-index l.domains)) ≡ list_any (ends_with l.suffix) (map (λ domain. domain.now) l.domains)
