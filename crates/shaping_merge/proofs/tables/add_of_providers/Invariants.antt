use Rattle.std.proofs.Common.{◌≡◌, ◌++◌, map, drop}
use Rattle.std.specs.BTreeSet.{contains_text}
use Rattle.std.specs.List.{filter}
use Rattle.policy_core.specs.PathTables.{is_provider_of, firsts, firsts_but}
use Rattle.shaping_merge.proofs.tables.add_of_providers.Given as goal

abbrev pub invariant-loop-provider : goal.invariant-loop-provider
invariant-loop-provider l =
    map (λ table. table.now) l.tables.items
    ++ map (λ p. p.table) (filter (is_provider_of l.policy l.site) (firsts_but (λ p. p.name) (contains_text l.met) (drop l.provider-index l.provider-items)))
    ≡ map (λ table. table.now) l.fn.tables.items
    ++ map (λ p. p.table) (filter (is_provider_of l.policy l.site) (firsts (λ p. p.name) l.policy.shaping.providers))
