use Rattle.std.proofs.Common.{codes, arith}
use Rattle.policy_fault.specs.TableNames.{joined}
use Rattle.policy_core.specs.Policy.{layers_of_tenant}
use Rattle.policy_core.proofs.PoolLemmas.{step_of_lists, end_of_lists}
use Rattle.policy_core.proofs.pools.PoolCheck.add_tenants.Goals as goal

pub loop-tenant-preserved : goal.loop-tenant-preserved
loop-tenant-preserved c =
    step_of_lists (layers_of_tenant (joined (codes "queue") c.args.domain.now)) c.args.tenants.now c.loop-tenant.tenant-index c.tenant-item.result c.loop-tenant.self c.add_tenant.new.self _
    (omega arith) c.tenant-item.is c.in_ok-add_tenant.ensures c.loop-tenant.invariant

pub returns : goal.returns
returns c = end_of_lists (layers_of_tenant (joined (codes "queue") c.args.domain.now)) c.args.tenants.now c.loop-tenant.tenant-index c.loop-tenant.self _ (omega arith) c.loop-tenant.invariant
