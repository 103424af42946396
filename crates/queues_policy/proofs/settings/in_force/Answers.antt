use Rattle.queues_policy.proofs.Layered.{laid}
use Rattle.queues_policy.proofs.settings.in_force.Goals as goal

pub returns : goal.returns
returns c =
    laid _ _ _ _ _ _ _ _ _ _ _ _ _ _ c.domain_of-domain.ensures c.tenant_of-tenant.ensures
    c.tenant_layer.ensures c.domain_layer.ensures c.domain_tenant_layer.ensures c.campaign_layer.ensures
    c.unset.ensures c.with.ensures c.with-2.ensures c.with-3.ensures c.with-4.ensures c.with-5.ensures
