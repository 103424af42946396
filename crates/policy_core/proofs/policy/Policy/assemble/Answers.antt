use Rattle.std.proofs.Common.{◌≡◌, ◌∙◌, None, sym}
use Rattle.policy_core.specs.Policy.{unknown_pool}
use Rattle.policy_core.proofs.ServedLemmas.{served}
use Rattle.policy_core.proofs.policy.Policy.assemble.Goals as goal

pub invariant_of-result : goal.invariant_of-result
invariant_of-result c =
    let none : unknown_pool c.args.sources c.args.queues ≡ None = c.in_ok-check_pools.ensures.ok in
    record {
      stops_are = rw c.of.ensures c.requires.stops;
      served = served c.args.sources c.args.queues none c.requires.base;
      entrants_are = c.requires.entrants;
      sources_named = c.requires.source_names;
      hosts_named = c.requires.hosts;
    }
