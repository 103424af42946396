-- Why a call is refused: each cause once, for all commands. And what a refused call had done until then.
use Rattle.std.specs.Prelude.{◌≡◌, ℕ, List, [], ◌∷◌, Option, Some, None, if◌then◌else◌, ⊤}
use Rattle.kumo_base.specs.Causes.{Rose}
use Rattle.queue_name.specs.declared.message.Message.{Message}
use Rattle.kumo_outside.specs.declared.session.Session.{Session}
use Rattle.kumo_outside.specs.Content.{TextsSeen, SinkSeen}
use Rattle.kumo_outside.specs.Search.{SearchSeen}
use Rattle.mail_input.specs.Inputs.{messages, refused as refused_mail}
use Rattle.command_words.specs.Commands.{PolicyNames, Command, check, explain, spool, send, crew, load}
use Rattle.policy_texts.specs.Texts.{Stop, too_long, refused as refused_text}
use Rattle.policy_texts.specs.Policies.{Stops}
use Rattle.kumo_run.specs.declared.refusal.Refusal.{Refusal}
use Rattle.kumo_run.specs.declared.refusal.Refusal.TheVariants as refusal
use Rattle.kumo_run.specs.MailRead.{MailRead, too_long as too_long_mail, mail_gives, IsNotYetSent}
use Rattle.kumo_run.specs.Delivery.{IsSessionOf, IsNotDelivered}
use Rattle.kumo_run.specs.Outside.{Outside, DiskShown, outside}
use Rattle.kumo_run.specs.Deeds.{Deed, nothing_done, deed_of_sessions, MailSays, asks_for_mail_alone}
use Rattle.kumo_run.specs.Spool.{IsDamagedAt, NeedsTooMuch}

-- what a command is given to work on
pub data Inputs : Type 0 where
  -- the words are no command
  no_command : Inputs
  -- the command, or an option of it, is not built yet
  unbuilt : Inputs
  -- the texts of a policy
  policy : PolicyNames → Inputs
  -- the name of a mail text
  mail : List ℕ → Inputs
  -- both areas of the disk
  areas : Inputs

abbrev pub inputs_of : Option Command → Inputs
inputs_of None = no_command
inputs_of (Some (check names)) = policy names
inputs_of (Some (explain question)) = policy question.texts
inputs_of (Some (spool folder)) = areas
inputs_of (Some (send s)) = if asks_for_mail_alone s then mail s.mail else unbuilt
inputs_of (Some (crew s workers)) = unbuilt
inputs_of (Some (load seed count)) = unbuilt

-- there are texts to read
abbrev pub HasTexts : Inputs → Type 0
HasTexts (policy names) = ⊤
HasTexts (mail name) = ⊤
HasTexts _ = ⊥

-- there is something to read, of texts or of the disk
abbrev pub IsBuilt : Inputs → Type 0
IsBuilt areas = ⊤
IsBuilt i = HasTexts i

abbrev pub HasAreas : Inputs → Type 0
HasAreas areas = ⊤
HasAreas _ = ⊥

abbrev pub HasPolicy : Inputs → Type 0
HasPolicy (policy names) = ⊤
HasPolicy _ = ⊥

-- the first reason why the texts of a policy give none
abbrev pub PolicyStops : Inputs → Outside → Stop → Type 0
PolicyStops (policy names) b stop = Stops b.texts.told names stop
PolicyStops _ b stop = ⊥

-- the mail text comes to something of which this holds
abbrev pub MailGives : Inputs → Outside → (MailRead → Type 0) → Type 0
MailGives (mail name) b P = MailSays (b.texts.told name) P
MailGives _ b P = ⊥

-- a text has more bytes than are read
abbrev pub IsTooLong : Inputs → Outside → Type 0
IsTooLong (policy names) b = Stops b.texts.told names too_long
IsTooLong (mail name) b = MailSays (b.texts.told name) (λ found. found ≡ too_long_mail)
IsTooLong _ b = ⊥

-- the areas of the disk are wrong from here on
abbrev pub IsDamaged : Inputs → Outside → ℕ → ℕ → Type 0
IsDamaged areas b area at = IsDamagedAt b.disk.told area at
IsDamaged _ b area at = ⊥

-- they are sound, and what is pending may need more than an area may have
abbrev pub IsTooLarge : Inputs → Outside → Type 0
IsTooLarge areas b = NeedsTooMuch b.disk.told
IsTooLarge _ b = ⊥

-- the mail is one message, and of it and its one session this holds
pub record OneSession (told : Option (List ℕ)) (sessions : List Session) (P : Message → Session → Type 0) : Type 0 where
  pub message : Message
  pub session : Session
  pub given : MailSays told (λ found. found ≡ mail_gives (messages (message ∷ [])))
  pub sessions_are : sessions ≡ session ∷ []
  pub session_is : P message session

abbrev pub HasOneSession : Inputs → Outside → List Session → (Message → Session → Type 0) → Type 0
HasOneSession (mail name) b sessions P = OneSession (b.texts.told name) sessions P
HasOneSession _ b sessions P = ⊥

-- the receiver did not take the message
abbrev pub FallsShort : Message → Session → Type 0
FallsShort m s = IsSessionOf m s × IsNotDelivered m s

abbrev pub Cause : Inputs → Outside → Outside → Deed → Refusal → Type 0
Cause i b a d refusal.Usage = i ≡ no_command
Cause i b a d (refusal.Policy place) = PolicyStops i b (refused_text place)
Cause i b a d (refusal.Mail line why) = MailGives i b (λ found. found ≡ mail_gives (refused_mail line why))
Cause i b a d refusal.ReadFault = HasTexts i × Rose b.texts.faults a.texts.faults
Cause i b a d refusal.SearchFault = HasPolicy i × Rose b.search.faults a.search.faults
Cause i b a d refusal.TextLimit = IsTooLong i b
Cause i b a d refusal.SpoolFault = HasAreas i × Rose b.disk.faults a.disk.faults
Cause i b a d (refusal.SpoolDamaged area at) = IsDamaged i b area at
Cause i b a d refusal.SpoolLimit = IsTooLarge i b
Cause i b a d refusal.Memory = IsBuilt i
Cause i b a d refusal.NotYetWords = i ≡ unbuilt
Cause i b a d refusal.NotYetMail = MailGives i b IsNotYetSent
Cause i b a d refusal.NotYetReply = HasOneSession i b d.sessions FallsShort

-- what was done before a refusal: nothing; a receiver was spoken to where it did not take the message
abbrev pub BeganTo : Deed → Refusal → Type 0
BeganTo d refusal.NotYetReply = d ≡ deed_of_sessions d.sessions
BeganTo d _ = d ≡ nothing_done

abbrev pub Refuses : Inputs → Outside → Outside → Deed → Refusal → Type 0
Refuses i b a d why = BeganTo d why × Cause i b a d why

-- the sending of a mail text is refused, whatever the other devices show
abbrev pub RefusesMail : TextsSeen → TextsSeen → List ℕ → List Session → Refusal → Type 0
RefusesMail before after name sessions why =
    (b a : SinkSeen) (searching searched : SearchSeen) (disk : DiskShown)
    → Refuses (mail name) (outside before b searching disk) (outside after a searched disk) (deed_of_sessions sessions) why
