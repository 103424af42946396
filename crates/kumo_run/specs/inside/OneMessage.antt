-- What the worker does with one message over one link.
use Rattle.std.specs.Prelude.{◌≡◌, ℕ, List, [], ◌∷◌, ◌++◌, Option, Some, Result, Ok, Err}
use Rattle.kumo_outside.specs.Sessions.{LinkSeen, session_of}
use Rattle.queue_name.specs.declared.message.Message.{Message}
use Rattle.kumo_outside.specs.declared.session.Session.{Session}
use Rattle.smtp_reply.specs.declared.reply.Reply.{Reply}
use Rattle.smtp_reply.specs.declared.reply.Outcome.{Outcome}
use Rattle.smtp_reply.specs.declared.reply.Outcome.TheVariants.{Delivered}
use Rattle.history_core.specs.declared.entry.Entry.{Entry}
use Rattle.smtp_dialogue.specs.Transcript.{IsTranscript}
use Rattle.kumo_run.specs.declared.dispatcher.DeliveryFault.{DeliveryFault}
use Rattle.kumo_run.specs.declared.dispatcher.DeliveryFault.TheVariants.{NotOpened, NotDelivered, Memory}
use Rattle.kumo_run.specs.inside.OneDelivery.{after_closing}
use Rattle.kumo_run.specs.inside.RegistryState.{RegistryState}
use Rattle.policy_core.specs.Limits.{localhost}
use Rattle.kumo_run.specs.Delivery.{IsDeliveredBy, IsNotDelivered, IsSessionOf}

-- a link that was just opened
pub record IsFreshLink (link : LinkSeen) : Type 0 where
  pub sent_is : link.sent ≡ Some []
  pub got_is : link.got ≡ Some []
  pub faults_are : link.faults ≡ 0

-- what a link that tells its bytes tells after the work on it
pub record Tells (m : Message) (link : LinkSeen) (P : Session → Type 0) : Type 0 where
  pub sent_bytes : List ℕ
  pub got_bytes : List ℕ
  pub sent_is : link.sent ≡ Some sent_bytes
  pub got_is : link.got ≡ Some got_bytes
  pub transcript : IsTranscript localhost (m ∷ []) (session_of link sent_bytes got_bytes)
  pub decided : P (session_of link sent_bytes got_bytes)

-- by the answer: the message was delivered in the session that the link tells, as the history then says, or was not
abbrev pub Converses : {T : Type 0} → Message → LinkSeen → Result T DeliveryFault → List Entry → Type 0
Converses m link (Ok x) h = Tells m link (λ s. (reply : Reply) × (h ≡ after_closing m reply) × IsDeliveredBy m reply s)
Converses m link (Err NotOpened) h = ⊥
Converses m link (Err NotDelivered) h = Tells m link (IsNotDelivered m)
Converses m link (Err Memory) h = ⊥

-- by the answer: the outcome was the delivery that the history says, or another; and QUIT was spoken
abbrev pub Parts : {T : Type 0} → Message → Outcome → Result T DeliveryFault → List Entry → Type 0 → Type 0
Parts m outcome (Ok x) h spoken = (reply : Reply) × (outcome ≡ Delivered reply) × (h ≡ after_closing m reply) × spoken
Parts m outcome (Err NotOpened) h spoken = ⊥
Parts m outcome (Err NotDelivered) h spoken = ((reply : Reply) → outcome ≡ Delivered reply → ⊥) × spoken
Parts m outcome (Err Memory) h spoken = ⊥

-- the linker tells one session more, that of the message
pub record TellsOneMore (m : Message) (new : Option (List Session)) (before : List Session) (P : Session → Type 0) : Type 0 where
  pub session : Session
  pub added : new ≡ Some (before ++ session ∷ [])
  pub session_is : IsSessionOf m session
  pub decided : P session

-- by the answer of the work over a new link; where none was opened, as where memory ran out, no session was added
abbrev pub Connects : {T : Type 0} → Message → Result T DeliveryFault → List Entry → Option (List Session) → List Session → Type 0
Connects m (Ok x) h new before =
    TellsOneMore m new before (λ s. (reply : Reply) × (h ≡ after_closing m reply) × IsDeliveredBy m reply s)
Connects m (Err NotOpened) h new before = new ≡ Some before
Connects m (Err NotDelivered) h new before = TellsOneMore m new before (IsNotDelivered m)
Connects m (Err Memory) h new before = new ≡ Some before

-- by the answer of the whole work on a message, which is the registry
abbrev pub Delivers : Message → Result RegistryState DeliveryFault → Option (List Session) → List Session → Type 0
Delivers m (Ok r) new before = Connects {T = RegistryState} m (Ok r) r.history new before
Delivers m (Err fault) new before = Connects {T = RegistryState} m (Err fault) [] new before
