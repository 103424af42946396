use Rattle.std.proofs.Common.{◌≡◌, ◌++◌, map, drop}
use Rattle.std.specs.List.{filter}
use Rattle.policy_core.specs.Site.{is_at_site}
use Rattle.shaping_merge.proofs.domains.add_of_rows.Given as goal

abbrev pub invariant-loop-row : goal.invariant-loop-row
invariant-loop-row l =
    map (λ domain. domain.now) l.domains.items ++ filter (is_at_site l.policy l.site) (map (λ row. row.domain) (drop l.row-index l.row-items))
    ≡ map (λ domain. domain.now) l.fn.domains.items ++ filter (is_at_site l.policy l.site) (map (λ row. row.domain) l.policy.mx)
