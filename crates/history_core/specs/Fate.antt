-- The fate of a message: the entries that settle it.
use Rattle.std.specs.Prelude.{ℕ, ◌==◌, List, length, filter}
use Rattle.queue_name.specs.declared.message.Message.{Message}
use Rattle.history_core.specs.declared.entry.Entry.{Entry}
use Rattle.history_core.specs.Events.{settled_in, is_this}
use Rattle.history_core.specs.History.{messages}

abbrev pub fate_of : List Entry → ℕ → List Entry
fate_of h id = filter (λ e. is_this (settled_in e.what) id) h

-- the messages without a fate, in order
abbrev pub pending : List Entry → List Message
pending h = filter (λ m. length (fate_of h m.id) == 0) (messages h)
