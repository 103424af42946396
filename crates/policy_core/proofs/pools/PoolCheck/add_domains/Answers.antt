use Rattle.std.proofs.Common.{arith}
use Rattle.policy_core.specs.Policy.{layers_of_domain}
use Rattle.policy_core.proofs.PoolLemmas.{step_of_lists, end_of_lists}
use Rattle.policy_core.proofs.pools.PoolCheck.add_domains.Goals as goal

pub loop-domain-preserved : goal.loop-domain-preserved
loop-domain-preserved c =
    step_of_lists (layers_of_domain) c.args.domains.now c.loop-domain.domain-index c.domain-item.result c.loop-domain.self c.add_domain.new.self _
    (omega arith) c.domain-item.is c.in_ok-add_domain.ensures c.loop-domain.invariant

pub returns : goal.returns
returns c = end_of_lists (layers_of_domain) c.args.domains.now c.loop-domain.domain-index c.loop-domain.self _ (omega arith) c.loop-domain.invariant
