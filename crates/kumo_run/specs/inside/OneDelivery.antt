-- The history of one message that is delivered, entry by entry. Every moment is 0, and the one pass has the number 0.
use Rattle.std.specs.Prelude.{ℕ, List, [], ◌∷◌, ◌++◌}
use Rattle.queue_name.specs.declared.message.Message.{Message}
use Rattle.smtp_reply.specs.declared.reply.Reply.{Reply}
use Rattle.smtp_reply.specs.declared.reply.Outcome.TheVariants.{Delivered}
use Rattle.history_core.specs.declared.entry.Entry.{Entry}
use Rattle.history_core.specs.declared.entry.Event.{Event}
use Rattle.history_core.specs.declared.entry.Event.TheVariants as event
use Rattle.history_core.specs.declared.entry.Next.TheVariants.{Settled}
use Rattle.history_core.specs.declared.entry.Cause.TheVariants.{Empty}
use Rattle.policy_core.specs.Limits.{unspecified}
use Rattle.policy_core.specs.PathTables.{path_text}

abbrev pub entry : Event → Entry
entry what = record { at = 0; who = 0; what = what }

-- the path of the message from the source `unspecified`
abbrev pub path_to : Message → List ℕ
path_to m = path_text unspecified m.name.domain

abbrev pub after_acceptance : Message → List Entry
after_acceptance m = entry (event.Accepted m) ∷ []

abbrev pub after_promotion : Message → List Entry
after_promotion m = after_acceptance m ++ entry (event.Promoted m.id unspecified) ∷ []

abbrev pub after_opening : Message → List Entry
after_opening m = after_promotion m ++ entry (event.Opened 1 (path_to m) 0) ∷ []

abbrev pub after_beginning : Message → List Entry
after_beginning m = after_opening m ++ entry (event.Begun 1 m.id 0) ∷ []

abbrev pub after_ending : Message → Reply → List Entry
after_ending m reply = after_beginning m ++ entry (event.Ended 1 m.id (Delivered reply) Settled) ∷ []

abbrev pub after_closing : Message → Reply → List Entry
after_closing m reply = after_ending m reply ++ entry (event.Closed 1 Empty) ∷ []
