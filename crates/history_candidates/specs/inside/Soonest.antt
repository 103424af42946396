-- The promotable message that is due first, found from the front.
use Rattle.std.specs.Prelude.{ℕ, nat_le, List, Bool, false, Option, Some, None, filter, filter_map, length, ◌==◌}
use Rattle.queue_name.specs.declared.message.Message.{Message}
use Rattle.policy_core.specs.Policy.{Policy}
use Rattle.history_core.specs.declared.entry.Entry.{Entry}
use Rattle.history_core.specs.Events.{message_in}
use Rattle.history_core.specs.Fate.{fate_of}
use Rattle.history_core.specs.Retry.{due}
use Rattle.history_core.specs.Candidates.{is_promotable}
use Rattle.history_core.specs.Openable.{lesser, least_by}

-- of these messages
abbrev pub soonest_among : Policy → List Entry → ℕ → List Message → Option Message
soonest_among policy h t ms = least_by (due h) (filter (is_promotable policy h t) ms)

-- what was found so far, or what comes of those behind it where that is due before
abbrev pub soonest_so_far : List Entry → Option Message → Option Message → Option Message
soonest_so_far h None later = later
soonest_so_far h (Some best) later = lesser (due h) best later

abbrev pub soonest_with : Policy → List Entry → ℕ → Option Message → List Message → Option Message
soonest_with policy h t best later = soonest_so_far h best (soonest_among policy h t later)

abbrev pub is_no_later : List Entry → Option Message → Message → Bool
is_no_later h None m = false
is_no_later h (Some best) m = nat_le (due h best) (due h m)

-- the pending messages of a history that some of its entries bring
abbrev pub pending_among : List Entry → List Entry → List Message
pending_among h later = filter (λ m. length (fate_of h m.id) == 0) (filter_map (λ e. message_in e.what) later)
