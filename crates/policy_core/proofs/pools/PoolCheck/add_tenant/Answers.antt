use Rattle.std.proofs.Common.{[], ◌∷◌}
use Rattle.policy_core.proofs.PoolLemmas.{with_then}
use Rattle.policy_core.proofs.pools.PoolCheck.add_tenant.Goals as goal

pub returns : goal.returns
returns c =
    rw (← c.as_str-tenant.ensures, ← c.as_slice.ensures)
    (with_then c.args.self.now c.add_layer.new.self c.add_named_layers.new.self (_ ∷ []) _ c.in_ok-add_layer.ensures c.in_ok-add_named_layers.ensures)
