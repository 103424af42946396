-- The messages that are ready on a path.
use Rattle.std.specs.Prelude.{ℕ, ◌+◌, ◌==◌, List, Bool, false, not, ◌&&◌, ◌||◌, Option, Some, None, find, filter, map, fold, drop}
use Rattle.std.specs.List.{list_any}
use Rattle.queue_name.specs.declared.message.Message.{Message}
use Rattle.policy_core.specs.Policy.{Policy}
use Rattle.history_core.specs.declared.entry.Entry.{Entry}
use Rattle.history_core.specs.declared.entry.Event.{Event}
use Rattle.history_core.specs.declared.entry.Event.TheVariants.{Promoted as promoted}
use Rattle.history_core.specs.declared.path.Path.{Path}
use Rattle.history_core.specs.declared.path.Promoted.{Promoted}
use Rattle.history_core.specs.Events.{taken_in, is_this}
use Rattle.history_core.specs.History.{promotions, message_with, is_same_path}
use Rattle.history_core.specs.Firing.{is_free}

-- an entry after the promotion takes the message from its queue
abbrev pub is_taken : List Entry → Promoted → Bool
is_taken h p = list_any (λ e. is_this (taken_in e.what) p.id) (drop (p.place + 1) h)

-- the promotions that stand: the messages were since then neither begun, nor delayed, nor settled
abbrev pub standing_among : List Promoted → List Entry → List Promoted
standing_among promotions h = filter (λ p. not (is_taken h p)) promotions

abbrev pub standing_promotions : Policy → List Entry → List Promoted
standing_promotions policy h = standing_among (promotions policy h) h

-- the ready messages of a path, in order of promotion
abbrev pub ready_among : List Promoted → List Entry → Path → List ℕ
ready_among promotions h path = map (λ p. p.id) (filter (λ p. is_same_path p.path path) (standing_among promotions h))

abbrev pub ready : Policy → List Entry → Path → List ℕ
ready policy h path = ready_among (promotions policy h) h path

abbrev pub is_ready_after : ℕ → Bool → Event → Bool
is_ready_after id was (promoted of source) = of == id || was
is_ready_after id was e = not (is_this (taken_in e) id) && was

-- the message is ready, on whatever path
abbrev pub is_ready : List Entry → ℕ → Bool
is_ready h id = fold (λ was e. is_ready_after id was e.what) false h

-- the message of an id, and nothing holds it back
abbrev pub is_some_free : Policy → List Entry → ℕ → Option Message → Bool
is_some_free policy h t None = false
is_some_free policy h t (Some m) = is_free policy h t m

abbrev pub is_free_id : Policy → List Entry → ℕ → ℕ → Bool
is_free_id policy h t id = is_some_free policy h t (message_with h id)

-- the first ready message of a path that nothing holds back
abbrev pub first_free : Policy → List Entry → ℕ → Path → Option ℕ
first_free policy h t path = find (is_free_id policy h t) (ready policy h path)
