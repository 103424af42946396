-- The orders of an administrator that were given, and which of them are live (KumoMTA's manual, administrative suspensions and
-- bounces).
use Rattle.std.specs.Prelude.{ℕ, ◌+◌, ◌==◌, ◌&&◌, ◌++◌, ◌∷◌, [], List, Bool, true, false, not, Option, Some, None, option_map, if◌then◌else◌, find, filter, map, length, min}
use Rattle.std.specs.List.{list_any}
use Rattle.std.specs.Option.{option_map_or}
use Rattle.queue_name.specs.QueueName.{Name}
use Rattle.policy_core.specs.declared.orders.Order.{Order}
use Rattle.policy_core.specs.LiveOrders.{is_during, end_of, duration_of, holds, bounces, halts}
use Rattle.suspensions.specs.declared.given.Given.{Given}

-- from its moment on, for its duration, unless it was resumed
abbrev pub is_live : ℕ → Given → Bool
is_live t given = is_during given.at (duration_of given.order) t && not given.resumed

abbrev pub live : List Given → ℕ → List Given
live book t = filter (is_live t) book

-- the number of the first live order that holds the messages of a queue
abbrev pub held : List Given → ℕ → Name → Option ℕ
held book t name = option_map (λ given. given.number) (find (λ given. holds given.order name) (live book t))

-- the number of the first live order that bounces them
abbrev pub bounced : List Given → ℕ → Name → Option ℕ
bounced book t name = option_map (λ given. given.number) (find (λ given. bounces given.order name) (live book t))

-- the number of the first live order that halts the path of a text
abbrev pub halted : List Given → ℕ → List ℕ → Option ℕ
halted book t text = option_map (λ given. given.number) (find (λ given. halts given.order text) (live book t))

-- some live order has this number
abbrev pub has_live : List Given → ℕ → ℕ → Bool
has_live book t number = list_any (λ given. given.number == number) (live book t)

-- the moment from which on an order is live no longer
abbrev pub end_of_given : Given → ℕ
end_of_given given = end_of given.at (duration_of given.order)

-- the least of numbers
abbrev pub least : List ℕ → Option ℕ
least [] = None
least (n ∷ ns) = Some (option_map_or (min n) (least ns) n)

-- the least end of live orders
abbrev pub next_end : List Given → ℕ → Option ℕ
next_end book t = least (map end_of_given (live book t))

-- an order more, given at this moment; orders are numbered from 1
abbrev pub with_order : ℕ → Order → List Given → List Given
with_order at order book = book ++ record { number = length book + 1; at = at; order = order; resumed = false } ∷ []

-- an order that was taken back, if it has this number
abbrev pub resumed_by : ℕ → Given → Given
resumed_by number given = if given.number == number then record given { resumed = true } else given

-- the order of this number was taken back
abbrev pub with_resumed : ℕ → List Given → List Given
with_resumed number book = map (resumed_by number) book
