-- The entry that the sweep appends next: what waits to be resolved, then what is delayed, each in the order of the messages'
-- numbers, then the message that is due first.
use Rattle.std.specs.Prelude.{ℕ, List, Option, Some, None, option_map, option_and_then, find, filter}
use Rattle.std.specs.Option.{option_or}
use Rattle.queue_name.specs.declared.message.Message.{Message}
use Rattle.policy_core.specs.Policy.{Policy}
use Rattle.history_core.specs.declared.entry.Entry.{Entry}
use Rattle.history_core.specs.declared.entry.Event.{Event}
use Rattle.history_core.specs.declared.entry.Event.TheVariants.{Promoted, Delayed, Resolved}
use Rattle.history_core.specs.declared.entry.How.{How}
use Rattle.history_core.specs.declared.entry.How.TheVariants.{Expired, AdminBounced}
use Rattle.history_core.specs.Fate.{pending}
use Rattle.history_core.specs.Retry.{due, next_after}
use Rattle.history_core.specs.LiveOrders.{bounced_by}
use Rattle.history_core.specs.Candidates.{is_resolvable, is_delayable, is_promotable, pick_for}
use Rattle.history_core.specs.Openable.{least_by}

-- the bounce comes before the age
abbrev pub how_by : Option ℕ → How
how_by None = Expired
how_by (Some number) = AdminBounced number

abbrev pub resolution : List Entry → ℕ → Message → Event
resolution h t m = Resolved m.id (how_by (bounced_by h t m.name))

abbrev pub next_resolved : Policy → List Entry → ℕ → Option Event
next_resolved policy h t = option_map (resolution h t) (find (is_resolvable policy h t) (pending h))

abbrev pub next_delayed : Policy → List Entry → ℕ → Option Event
next_delayed policy h t =
    option_map (λ m. Delayed m.id (next_after policy h t m)) (find (is_delayable policy h t) (pending h))

abbrev pub promotion_by : Message → Option (List ℕ) → Option Event
promotion_by m source = option_map (Promoted m.id) source

-- the promotable message that is due first, the first by number among equals, with its pick
abbrev pub next_promoted : Policy → List Entry → ℕ → Option Event
next_promoted policy h t =
    option_and_then (λ m. promotion_by m (pick_for policy h t m)) (least_by (due h) (filter (is_promotable policy h t) (pending h)))

unfoldable pub next_swept : Policy → List Entry → ℕ → Option Event
next_swept policy h t = option_or (next_resolved policy h t) (option_or (next_delayed policy h t) (next_promoted policy h t))
