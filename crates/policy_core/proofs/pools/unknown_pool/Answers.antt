use Rattle.std.proofs.Common.{◌≡◌, ◌∙◌, None, ap}
use Rattle.policy_core.specs.declared.pools.PoolCheck.{PoolCheck}
use Rattle.policy_core.specs.Policy.{all_layers}
use Rattle.policy_core.specs.inside.PoolCheck.{with_layers}
use Rattle.policy_core.proofs.PoolLemmas.{with_then, unknown_with}
use Rattle.policy_core.proofs.pools.unknown_pool.Goals as goal

pub returns : goal.returns
returns c =
    let start : PoolCheck = record { sources = c.args.sources; unknown = None } in
    let first = c.in_ok-add_layer.ensures in
    let more = with_then c.add_layer.new.self c.add_named_layers.new.self c.add_domains.new.self _ _ c.in_ok-add_named_layers.ensures c.in_ok-add_domains.ensures in
    let all : c.add_domains.new.self ≡ with_layers start (all_layers c.args.queues.now) =
    rw (← c.as_slice.ensures, ← c.as_slice-2.ensures) (with_then start c.add_layer.new.self c.add_domains.new.self _ _ first more) in
    ap (λ (check : PoolCheck). check.unknown) all ∙ unknown_with c.args.sources c.args.queues.now
