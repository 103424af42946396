-- Why a mail text is not sent, step by step: it is not read, or its messages are not sent.
use Rattle.std.specs.Prelude.{◌≡◌, List, [], ◌∷◌, ⊤}
use Rattle.queue_name.specs.declared.message.Message.{Message}
use Rattle.kumo_outside.specs.declared.session.Session.{Session}
use Rattle.mail_input.specs.Inputs.{refused}
use Rattle.mail_input.specs.declared.MailFault.{MailFault}
use Rattle.mail_input.specs.declared.MailFault.TheVariants as fault
use Rattle.kumo_run.specs.MailRead.{MailRead, too_long, mail_gives, IsTooMuch}
use Rattle.kumo_run.specs.declared.refusal.Refusal.{Refusal}
use Rattle.kumo_run.specs.declared.refusal.Refusal.TheVariants as refusal
use Rattle.kumo_run.specs.Causes.{FallsShort}

-- the refusal that a fault of the mail text comes to
abbrev pub refusal_of : MailFault → Refusal
refusal_of (fault.At line why) = refusal.Mail line why
refusal_of fault.Memory = refusal.Memory

-- what a mail text comes to is refused so
abbrev pub IsMisread : Refusal → MailRead → Type 0
IsMisread (refusal.Mail line why) found = found ≡ mail_gives (refused line why)
IsMisread refusal.TextLimit found = found ≡ too_long
IsMisread refusal.Memory found = ⊤
IsMisread _ found = ⊥

-- where the messages were read: memory ran out, or they are not sent so far, or the one was not delivered in the one session
abbrev pub StopsShort : Refusal → List Message → List Session → Type 0
StopsShort refusal.Memory mail sessions = sessions ≡ []
StopsShort refusal.NotYetMail mail sessions = IsTooMuch mail × (sessions ≡ [])
StopsShort refusal.NotYetReply mail sessions =
    (m : Message) × (s : Session) × (mail ≡ m ∷ []) × (sessions ≡ s ∷ []) × FallsShort m s
StopsShort _ mail sessions = ⊥
