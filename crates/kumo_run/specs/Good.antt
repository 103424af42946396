-- Good inputs, and a call in which no device failed.
use Rattle.std.specs.Prelude.{◌≡◌, ◌⊎◌, ◌≤◌, ℕ, List, Option, Some, All, length}
use Rattle.kumo_base.specs.Causes.{Rose}
use Rattle.queue_name.specs.declared.message.Message.{Message}
use Rattle.mail_input.specs.Inputs.{messages}
use Rattle.kumo_outside.specs.declared.session.Session.{Session}
use Rattle.policy_texts.specs.Texts.{Stop}
use Rattle.kumo_run.specs.MailRead.{mail_gives, mail_read}
use Rattle.kumo_run.specs.Outside.{Outside}
use Rattle.kumo_run.specs.Spool.{IsGoodSpool}
use Rattle.kumo_run.specs.Causes.{Inputs, no_command, unbuilt, policy, mail, areas, PolicyStops, HasOneSession, FallsShort}

-- no count of faults rose
pub record IsCalm (b a : Outside) : Type 0 where
  pub texts : Rose b.texts.faults a.texts.faults → ⊥
  pub out : Rose b.out.faults a.out.faults → ⊥
  pub search : Rose b.search.faults a.search.faults → ⊥
  pub disk : Rose b.disk.faults a.disk.faults → ⊥

-- the mail text is told and gives one message, which is due at moment 0, or none
pub record IsGoodMail (told : Option (List ℕ)) : Type 0 where
  pub text : List ℕ
  pub list : List Message
  pub told_is : told ≡ Some text
  pub gives : mail_read text ≡ mail_gives (messages list)
  pub few : length list ≤ 1
  pub due : All (λ m. m.created ≡ 0) list

-- the texts and the disk give what the command needs; that no reason is found why texts give no policy says too that they are told
abbrev pub IsGood : Inputs → Outside → Type 0
IsGood no_command b = ⊥
IsGood unbuilt b = ⊥
IsGood (policy names) b = (stop : Stop) → PolicyStops (policy names) b stop → ⊥
IsGood (mail name) b = IsGoodMail (b.texts.told name)
IsGood areas b = IsGoodSpool b.disk.told

-- done, or out of memory, or refused as the receiver did not take the message
abbrev pub EndsWell : Inputs → Outside → ℕ → List Session → Type 0
EndsWell i b code sessions = (code ≡ 0) ⊎ ((code ≡ 11) ⊎ HasOneSession i b sessions FallsShort)
