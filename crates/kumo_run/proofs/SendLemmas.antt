-- Why a mail text is not sent, from why its reading or the sending of its messages stopped.
use Rattle.std.proofs.Common.{◌≡◌, ℕ, List, [], ◌∷◌, Option, Some, None, IfSome, refl, sym, ap, subst, ◌∙◌}
use Rattle.queue_name.specs.declared.message.Message.{Message}
use Rattle.kumo_outside.specs.declared.session.Session.{Session}
use Rattle.kumo_outside.specs.declared.text_reader.TheConstants.{TEXT_LIMIT}
use Rattle.kumo_outside.specs.Reading.{IsReadUpTo}
use Rattle.kumo_outside.specs.Content.{TextsSeen}
use Rattle.mail_input.specs.Inputs.{messages, refused}
use Rattle.kumo_run.specs.declared.refusal.Refusal.{Refusal}
use Rattle.kumo_run.specs.declared.refusal.Refusal.TheVariants as refusal
use Rattle.kumo_run.specs.MailRead.{MailRead, too_long, mail_gives, mail_read, IsNotYetSent}
use Rattle.scripted_peer.specs.ScriptedPeer.{LinkerState}
use Rattle.kumo_run.specs.Deeds.{MailSays, deed_of_sessions, all_sessions}
use Rattle.kumo_run.specs.Causes.{RefusesMail}
use Rattle.kumo_run.specs.inside.SendCauses.{IsMisread, StopsShort}
use Rattle.kumo_run.proofs.MailLemmas.{same_read}

-- what holds of the bytes read holds of the told text
says_as : (told : Option (List ℕ)) (read : List ℕ) (P : MailRead → Type 0)
    → IfSome told (λ text. IsReadUpTo TEXT_LIMIT text read) → P (mail_read read) → MailSays told P
says_as None read P up h = tt
says_as (Some text) read P up h = subst P (sym (same_read text read up)) h

says_more : (told : Option (List ℕ)) (P Q : MailRead → Type 0) → ((found : MailRead) → P found → Q found) → MailSays told P → MailSays told Q
says_more None P Q f h = tt
says_more (Some text) P Q f h = f (mail_read text) h

module _ (before after : TextsSeen) (name : List ℕ) where
  pub unread : (read : List ℕ) → IfSome (before.told name) (λ text. IsReadUpTo TEXT_LIMIT text read)
      → (why : Refusal) → IsMisread why (mail_read read) → RefusesMail before after name [] why
  unread read up (refusal.Mail line why) h = λ b a searching searched disk.
      (refl, says_as (before.told name) read (λ found. found ≡ mail_gives (refused line why)) up h)
  unread read up refusal.TextLimit h = λ b a searching searched disk. (refl, says_as (before.told name) read (λ found. found ≡ too_long) up h)
  unread read up refusal.Memory h = λ b a searching searched disk. (refl, tt)
  unread read up _ h = absurd h

  module _ (mail : List Message) (given : MailSays (before.told name) (λ found. found ≡ mail_gives (messages mail))) (sessions : List Session) where
    as_one : (m : Message) → mail ≡ m ∷ [] → MailSays (before.told name) (λ found. found ≡ mail_gives (messages (m ∷ [])))
    as_one m is =
        says_more (before.told name) (λ found. found ≡ mail_gives (messages mail)) (λ found. found ≡ mail_gives (messages (m ∷ [])))
        (λ found e. e ∙ ap (λ (ms : List Message). mail_gives (messages ms)) is) given

    pub stops_short : (why : Refusal) → StopsShort why mail sessions → RefusesMail before after name sessions why
    stops_short refusal.Memory none = λ b a searching searched disk. (ap deed_of_sessions none, tt)
    stops_short refusal.NotYetMail (too_much, none) = λ b a searching searched disk.
        (ap deed_of_sessions none, says_more (before.told name) (λ found. found ≡ mail_gives (messages mail)) IsNotYetSent (λ found e. record { mail = mail; read = e; too_much = too_much }) given)
    stops_short refusal.NotYetReply (m, s, is, sessions_are, short) = λ b a searching searched disk.
        (refl, record { message = m; session = s; given = as_one m is; sessions_are = sessions_are; session_is = short })
    stops_short _ h = absurd h

  -- where no linker was used there is no session
  pub refused_unused : (why : Refusal) (linkers : List LinkerState) → linkers ≡ [] → RefusesMail before after name [] why
      → RefusesMail before after name (all_sessions linkers) why
  refused_unused why linkers unused h = subst (λ (ks : List LinkerState). RefusesMail before after name (all_sessions ks) why) (sym unused) h
