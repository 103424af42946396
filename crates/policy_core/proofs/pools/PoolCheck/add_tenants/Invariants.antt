use Rattle.std.proofs.Common.{◌≡◌, drop, codes}
use Rattle.std.specs.List.{flat_map}
use Rattle.policy_fault.specs.TableNames.{joined}
use Rattle.policy_core.specs.Policy.{layers_of_tenant}
use Rattle.policy_core.specs.inside.PoolCheck.{with_layers}
use Rattle.policy_core.proofs.pools.PoolCheck.add_tenants.Given as goal

-- what is left gives the same
abbrev pub invariant-loop-tenant : goal.invariant-loop-tenant
invariant-loop-tenant l = with_layers l.self (flat_map (layers_of_tenant (joined (codes "queue") l.domain)) (drop l.tenant-index l.tenants)) ≡ with_layers l.fn.self (flat_map (layers_of_tenant (joined (codes "queue") l.domain)) l.tenants)
