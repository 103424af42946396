use Rattle.std.proofs.Common.{◌≡◌, drop}
use Rattle.std.specs.List.{flat_map}
use Rattle.policy_core.specs.Policy.{layers_of_domain}
use Rattle.policy_core.specs.inside.PoolCheck.{with_layers}
use Rattle.policy_core.proofs.pools.PoolCheck.add_domains.Given as goal

-- what is left gives the same
abbrev pub invariant-loop-domain : goal.invariant-loop-domain
invariant-loop-domain l = with_layers l.self (flat_map layers_of_domain (drop l.domain-index l.domains)) ≡ with_layers l.fn.self (flat_map layers_of_domain l.domains)
