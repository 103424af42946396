use Rattle.std.proofs.Common.{◌≡◌, drop, filter, filter_map}
use Rattle.std.specs.List.{list_any}
use Rattle.policy_core.specs.LiveOrders.{holds}
use Rattle.history_core.specs.LiveOrders.{given_order_in, is_live}
use Rattle.history_views.proofs.orders.is_held.Given as goal

abbrev pub invariant-loop-entry : goal.invariant-loop-entry
invariant-loop-entry l =
    list_any (λ o. holds o.order l.name) (filter (is_live l.entries l.t) (filter_map given_order_in l.entries))
    ≡ list_any (λ o. holds o.order l.name) (filter (is_live l.entries l.t) (filter_map given_order_in (drop l.entry-index l.entries)))
