-- What each command does: the text that it prints, the history that it hands out and the sessions with receivers.
use Rattle.std.specs.Prelude.{◌≡◌, ℕ, List, [], Bool, ◌&&◌, Option, Some, None, is_none, IfSome, IsTrue, flat_map}
use Rattle.queue_name.specs.declared.message.Message.{Message}
use Rattle.kumo_outside.specs.declared.session.Session.{Session}
use Rattle.history_core.specs.declared.entry.Entry.{Entry}
use Rattle.delivery_log.specs.LogText.{log_text}
use Rattle.mail_input.specs.Inputs.{messages}
use Rattle.scripted_peer.specs.ScriptedPeer.{LinkerState}
use Rattle.command_words.specs.Commands.{PolicyNames, Sending, Command, check, explain, spool, send, crew, load}
use Rattle.kumo_run.specs.PolicyAnswers.{IsCheckText, IsExplainText}
use Rattle.kumo_run.specs.Spool.{IsSpoolText}
use Rattle.kumo_run.specs.MailRead.{MailRead, mail_gives, mail_read}
use Rattle.kumo_run.specs.Outside.{Outside}
use Rattle.kumo_run.specs.Run.{IsRun}

-- what was done: the text to print, the history and the sessions
pub record Deed : Type 0 where
  pub text : List ℕ
  pub history : Option (List Entry)
  pub sessions : List Session

-- receivers were spoken to and nothing came of it; a text was made; a run went to its end, and its log is to be printed
abbrev pub deed_of_sessions : List Session → Deed
deed_of_sessions sessions = record { text = []; history = None; sessions = sessions }

abbrev pub nothing_done : Deed
nothing_done = deed_of_sessions []

abbrev pub deed_of_text : List ℕ → Deed
deed_of_text text = record { text = text; history = None; sessions = [] }

abbrev pub deed_of_run : List Entry → List Session → Deed
deed_of_run h sessions = record { text = log_text h; history = Some h; sessions = sessions }

-- the sessions that linkers tell, one linker after the other
abbrev pub all_sessions : List LinkerState → List Session
all_sessions linkers = flat_map (λ k. k.sessions) linkers

-- where the mail text is told, this is said of what it comes to
abbrev pub MailSays : Option (List ℕ) → (MailRead → Type 0) → Type 0
MailSays told P = IfSome told (λ text. P (mail_read text))

-- the mail was sent: the history is its run
pub record RanMail (told : Option (List ℕ)) (h : List Entry) (sessions : List Session) : Type 0 where
  pub mail : List Message
  pub given : MailSays told (λ found. found ≡ mail_gives (messages mail))
  pub run : IsRun mail h sessions

-- a mail text is sent where nothing else is asked for
abbrev pub names_no_text : PolicyNames → Bool
names_no_text names = is_none names.sources && is_none names.queues && is_none names.shaping && is_none names.mx

abbrev pub has_no_option : Sending → Bool
has_no_option s = is_none s.peers && is_none s.orders && is_none s.until && is_none s.start && is_none s.spool

abbrev pub asks_for_mail_alone : Sending → Bool
asks_for_mail_alone s = names_no_text s.texts && has_no_option s

-- the deed of each command; those that are not built have none
abbrev pub Does : Command → Outside → Deed → Type 0
Does (check names) b d = (text : List ℕ) × IsCheckText b.texts.told names text × (d ≡ deed_of_text text)
Does (explain question) b d = (text : List ℕ) × IsExplainText b.texts.told question text × (d ≡ deed_of_text text)
Does (spool folder) b d = (text : List ℕ) × IsSpoolText b.disk.told text × (d ≡ deed_of_text text)
Does (send s) b d =
    IsTrue (asks_for_mail_alone s) × (h : List Entry) × RanMail (b.texts.told s.mail) h d.sessions × (d ≡ deed_of_run h d.sessions)
Does (crew s workers) b d = ⊥
Does (load seed count) b d = ⊥
