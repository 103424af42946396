-- The pending messages of a history, entry by entry.
use Rattle.std.specs.Prelude.{◌==◌, List, Bool, true, false, length, Option, Some, None, option_and_then, if◌then◌else◌}
use Rattle.queue_name.specs.declared.message.Message.{Message}
use Rattle.smtp_reply.specs.declared.reply.Outcome.{Outcome}
use Rattle.smtp_reply.specs.declared.reply.Outcome.TheVariants.{Transient, Lost}
use Rattle.history_core.specs.declared.entry.Entry.{Entry}
use Rattle.history_core.specs.Events.{message_in}
use Rattle.history_core.specs.Fate.{fate_of}

-- the message that an entry brings, where nothing settles it
abbrev pub pending_in : List Entry → Entry → Option Message
pending_in h e = option_and_then (λ m. if length (fate_of h m.id) == 0 then Some m else None) (message_in e.what)

-- an attempt came to no decision for good
abbrev pub is_failure : Outcome → Bool
is_failure (Transient reply) = true
is_failure (Lost why) = true
is_failure _ = false
