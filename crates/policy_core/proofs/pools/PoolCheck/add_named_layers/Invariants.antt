use Rattle.std.proofs.Common.{◌≡◌, map, drop}
use Rattle.policy_core.specs.Policy.{layer_in_place}
use Rattle.policy_core.specs.inside.PoolCheck.{name_above, with_layers}
use Rattle.policy_core.proofs.pools.PoolCheck.add_named_layers.Given as goal

-- what is left gives the same
abbrev pub invariant-loop-layer : goal.invariant-loop-layer
invariant-loop-layer l = with_layers l.self (map (layer_in_place (name_above l.above)) (drop l.layer-index l.layers)) ≡ with_layers l.fn.self (map (layer_in_place (name_above l.above)) l.layers)
