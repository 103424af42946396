-- What the inner steps of the dialogue do: sending, listening, asking, and one try of a message.
use Rattle.std.specs.Prelude.{◌≡◌, ℕ, ◌≤◌, ◌⊎◌, List, ◌++◌, take, drop, true, false, Result, Ok, Err}
use Rattle.kumo_base.specs.Causes.{Rose}
use Rattle.kumo_outside.specs.Sessions.{LinkSeen}
use Rattle.kumo_outside.specs.Content.{told_with, TakesProperPrefix}
use Rattle.smtp_reply.specs.declared.reply.Lost.{Lost}
use Rattle.smtp_reply.specs.declared.reply.Lost.TheVariants.{LinkFault, Ended, BadReply, TooLong}
use Rattle.smtp_reply.specs.declared.reader.Heard.TheVariants.{Whole, More, Bad}
use Rattle.smtp_reply.specs.declared.reader.Heard.TheVariants as heard_as
use Rattle.smtp_reply.specs.Replies.{heard}
use Rattle.smtp_dialogue.specs.Speaks.{Side}

-- the bytes were sent whole, and nothing was got
pub record Sends (words : List ℕ) (old new : LinkSeen) : Type 0 where
  pub whole : new.sent ≡ told_with old.sent words
  pub got_is : new.got ≡ old.got
  pub later : old.faults ≤ new.faults

-- the link failed before the bytes were sent whole
pub record FailsToSend (words : List ℕ) (old new : LinkSeen) : Type 0 where
  pub part : TakesProperPrefix old.sent new.sent words
  pub got_is : new.got ≡ old.got
  pub not_ended : new.ended ≡ false
  pub later : old.faults ≤ new.faults
  pub rose : Rose old.faults new.faults

-- bytes came, and stand behind those that were not yet read
pub record Gets (old new : Side) : Type 0 where
  pub more : List ℕ
  pub grows : new.link.got ≡ told_with old.link.got more
  pub added : new.unread ≡ old.unread ++ more
  pub sent_is : new.link.sent ≡ old.link.sent
  pub later : old.link.faults ≤ new.link.faults

-- why no more bytes came
abbrev pub IsCutOff : Lost → Side → Side → Type 0
IsCutOff LinkFault old new = Rose old.link.faults new.link.faults × (new.link.ended ≡ false)
IsCutOff Ended old new = new.link.ended ≡ true
IsCutOff BadReply old new = ⊥
IsCutOff TooLong old new = ⊥

-- the bytes begin with this reply, and these are left behind it
pub record IsReply (bytes reply left : List ℕ) : Type 0 where
  pub whole : (heard bytes).what ≡ Whole
  pub reply_is : reply ≡ take (heard bytes).used bytes
  pub left_is : left ≡ drop (heard bytes).used bytes

-- the reply that the bytes begin with, or why they begin with none
abbrev pub IsAnswer : {T : Type 0} → Result T Lost → List ℕ → List ℕ → Side → Side → Type 0
IsAnswer (Ok x) bytes reply old new = IsReply bytes reply new.unread
IsAnswer (Err LinkFault) bytes reply old new =
    ((heard bytes).what ≡ More) × Rose old.link.faults new.link.faults × (new.link.ended ≡ false)
IsAnswer (Err Ended) bytes reply old new = ((heard bytes).what ≡ More) × (new.link.ended ≡ true)
IsAnswer (Err BadReply) bytes reply old new = (at : ℕ) × ((heard bytes).what ≡ Bad at)
IsAnswer (Err TooLong) bytes reply old new = (heard bytes).what ≡ heard_as.TooLong

-- a reply was read, or why none was
pub record Hears {T : Type 0} (old new : Side) (reply : List ℕ) (result : Result T Lost) : Type 0 where
  pub more : List ℕ
  pub grows : new.link.got ≡ told_with old.link.got more
  pub sent_is : new.link.sent ≡ old.link.sent
  pub later : old.link.faults ≤ new.link.faults
  pub answer : IsAnswer result (old.unread ++ more) reply old new

-- the words were sent, and then a reply was read
pub record AsksAndHears {T : Type 0} (words : List ℕ) (old new : Side) (reply : List ℕ) (result : Result T Lost) : Type 0 where
  pub mid : Side
  pub same : mid.unread ≡ old.unread
  pub says_them : Sends words old.link mid.link
  pub hears : Hears mid new reply result

pub record FailsToAsk {T : Type 0} (words : List ℕ) (old new : Side) (result : Result T Lost) : Type 0 where
  pub result_is : result ≡ Err LinkFault
  pub fails : FailsToSend words old.link new.link

abbrev pub Asks : {T : Type 0} → List ℕ → Side → Side → List ℕ → Result T Lost → Type 0
Asks words old new reply result = FailsToAsk words old new result ⊎ AsksAndHears words old new reply result
