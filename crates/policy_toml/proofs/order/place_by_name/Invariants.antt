use Rattle.std.proofs.Common.{◌≡◌, ◌≤◌, length, take}
use Rattle.policy_toml.specs.Order.{place_by_name}
use Rattle.policy_toml.proofs.order.place_by_name.Given as goal

abbrev pub invariant-loop-place : goal.invariant-loop-place
invariant-loop-place g l = record {
  within : l.place ≤ length l.items;
  same : place_by_name g.T.Named.name_of l.name (take l.place l.items) ≡ place_by_name g.T.Named.name_of l.name l.items;
}

abbrev pub decreases-loop-place : goal.decreases-loop-place
decreases-loop-place g l = l.place
