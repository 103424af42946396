-- What a mail text comes to when it is read.
use Rattle.std.specs.Prelude.{◌≡◌, ◌⊎◌, ℕ, ◌<◌, nat_lt, List, length, Bool, if◌then◌else◌, IsTrue}
use Rattle.std.specs.List.{list_any}
use Rattle.queue_name.specs.declared.message.Message.{Message}
use Rattle.mail_input.specs.Inputs.{Mail, messages, mail_of}
use Rattle.kumo_outside.specs.Limits.{text_limit}

-- it has more bytes than are read, or it gives what the definition of a mail text says
pub data MailRead : Type 0 where
  too_long : MailRead
  mail_gives : Mail → MailRead

unfoldable pub mail_read : List ℕ → MailRead
mail_read text = if nat_lt text_limit (length text) then too_long else mail_gives (mail_of text)

-- a message is due after moment 0, as it was made after it
abbrev pub has_later : List Message → Bool
has_later mail = list_any (λ m. nat_lt 0 m.created) mail

-- a mail that is not sent so far: it has more than one message, or one that is due after moment 0
abbrev pub IsTooMuch : List Message → Type 0
IsTooMuch mail = (1 < length mail) ⊎ IsTrue (has_later mail)

pub record IsNotYetSent (found : MailRead) : Type 0 where
  pub mail : List Message
  pub read : found ≡ mail_gives (messages mail)
  pub too_much : IsTooMuch mail
