-- An order as the code holds it.
use Rattle.std.specs.Prelude.{ℕ, List, Option, Some, None, option_and_then, if◌then◌else◌}
use Rattle.history_core.specs.declared.entry.Entry.{Entry}
use Rattle.history_core.specs.LiveOrders.{GivenOrder, given_order_in, is_live}
use Rattle.history_views.specs.declared.orders.GivenNow.{GivenNow}

abbrev pub order_of : GivenNow → GivenOrder
order_of given = record { number = given.number; at = given.at; order = given.order.now }

-- the order that an entry gives, where it is live
abbrev pub live_in : List Entry → ℕ → Entry → Option GivenOrder
live_in h t e = option_and_then (λ o. if is_live h t o then Some o else None) (given_order_in e)
