use Rattle.std.proofs.Common.{arith}
use Rattle.policy_core.specs.Policy.{layer_in_place}
use Rattle.policy_core.specs.inside.PoolCheck.{name_above}
use Rattle.policy_core.proofs.PoolLemmas.{step_of_items, end_of_items}
use Rattle.policy_core.proofs.pools.PoolCheck.add_named_layers.Goals as goal

pub loop-layer-preserved : goal.loop-layer-preserved
loop-layer-preserved c =
    step_of_items (layer_in_place (name_above c.args.above)) c.args.layers.now c.loop-layer.layer-index c.layer-item.result c.loop-layer.self c.add_layer.new.self _
    (omega arith) c.layer-item.is (rw (← c.as_str.ensures) c.in_ok-add_layer.ensures) c.loop-layer.invariant

pub returns : goal.returns
returns c = end_of_items (layer_in_place (name_above c.args.above)) c.args.layers.now c.loop-layer.layer-index c.loop-layer.self _ (omega arith) c.loop-layer.invariant
