use Rattle.std.proofs.Common.{◌≡◌, drop, filter, filter_map, find}
use Rattle.policy_core.specs.LiveOrders.{bounces}
use Rattle.history_core.specs.LiveOrders.{given_order_in, is_live}
use Rattle.history_views.proofs.orders.bounced_by.Given as goal

abbrev pub invariant-loop-entry : goal.invariant-loop-entry
invariant-loop-entry l =
    find (λ o. bounces o.order l.name) (filter (is_live l.entries l.t) (filter_map given_order_in l.entries))
    ≡ find (λ o. bounces o.order l.name) (filter (is_live l.entries l.t) (filter_map given_order_in (drop l.entry-index l.entries)))
