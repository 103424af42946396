-- The orders of an administrator that are live at a moment, and what they do (KumoMTA's manual, administrative suspensions and
-- bounces).
use Rattle.std.specs.Prelude.{ℕ, List, Bool, not, ◌&&◌, Option, option_map, find, filter, filter_map}
use Rattle.std.specs.List.{list_any}
use Rattle.queue_name.specs.QueueName.{Name}
use Rattle.policy_core.specs.LiveOrders.{is_during, duration_of, holds, bounces, halts}
use Rattle.policy_core.specs.declared.orders.Order.{Order}
use Rattle.history_core.specs.declared.entry.Entry.{Entry}
use Rattle.history_core.specs.Events.{order_in, resumed_in, is_this}

-- an order as its Ordered entry has it
pub record GivenOrder : Type 0 where
  pub number : ℕ
  pub at : ℕ
  pub order : Order

abbrev pub given_order_in : Entry → Option GivenOrder
given_order_in e = option_map (λ given. record { number = given.number; at = e.at; order = given.order }) (order_in e.what)

-- all that were given, in order
abbrev pub orders : List Entry → List GivenOrder
orders h = filter_map given_order_in h

abbrev pub is_resumed : List Entry → ℕ → Bool
is_resumed h number = list_any (λ e. is_this (resumed_in e.what) number) h

-- from its moment on, for its duration, unless it was resumed
abbrev pub is_live : List Entry → ℕ → GivenOrder → Bool
is_live h t o = is_during o.at (duration_of o.order) t && not (is_resumed h o.number)

abbrev pub live_orders : List Entry → ℕ → List GivenOrder
live_orders h t = filter (is_live h t) (orders h)

-- the messages of a queue wait: a live suspension or bounce matches its name
abbrev pub is_held : List Entry → ℕ → Name → Bool
is_held h t name = list_any (λ o. holds o.order name) (live_orders h t)

-- the number of the first live bounce that matches a queue's name
abbrev pub bounced_by : List Entry → ℕ → Name → Option ℕ
bounced_by h t name = option_map (λ o. o.number) (find (λ o. bounces o.order name) (live_orders h t))

-- an order halts the path of this text
abbrev pub is_suspended : List Entry → ℕ → List ℕ → Bool
is_suspended h t text = list_any (λ o. halts o.order text) (live_orders h t)
