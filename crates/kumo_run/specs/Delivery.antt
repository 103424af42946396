-- What a session tells of one message.
use Rattle.std.specs.Prelude.{◌≡◌, [], ◌∷◌}
use Rattle.queue_name.specs.declared.message.Message.{Message}
use Rattle.kumo_outside.specs.declared.session.Session.{Session}
use Rattle.smtp_reply.specs.declared.reply.Reply.{Reply}
use Rattle.smtp_reply.specs.declared.reply.Outcome.TheVariants.{Delivered}
use Rattle.policy_core.specs.Limits.{unspecified, localhost}
use Rattle.smtp_dialogue.specs.Transcript.{Spoken, alive, before_parting, IsPrefix, IsTranscript}

-- the greeting and the attempt, for the bytes that the session got
abbrev pub up_to_quit : Message → Session → Spoken
up_to_quit m s = before_parting localhost (m ∷ []) s.got

-- the session greeted, and the attempt was sent whole and answered by this reply
pub record IsDeliveredBy (m : Message) (reply : Reply) (s : Session) : Type 0 where
  pub through : (up_to_quit m s).standing ≡ alive
  pub outcome : (up_to_quit m s).outcomes ≡ Delivered reply ∷ []
  pub sent : IsPrefix (up_to_quit m s).sent s.sent

abbrev pub IsNotDelivered : Message → Session → Type 0
IsNotDelivered m s = (reply : Reply) → IsDeliveredBy m reply s → ⊥

-- the one session of the message
pub record IsSessionOf (m : Message) (s : Session) : Type 0 where
  pub host : s.host ≡ m.name.domain
  pub source : s.source ≡ unspecified
  pub transcript : IsTranscript localhost (m ∷ []) s
