-- What a client sends and what becomes of each message, for given bytes got (RFC 5321 sections 3 and 4.3). Each part of
-- a session is a function of the bytes that can be read; it stands in the order in which the client speaks.
use Rattle.std.specs.Prelude.{◌≡◌, ℕ, ◌/◌, ◌==◌, List, [], ◌∷◌, ◌++◌, take, drop, codes, Bool, true, false, if◌then◌else◌}
use Rattle.queue_name.specs.declared.message.Message.{Message}
use Rattle.kumo_outside.specs.declared.session.Session.{Session}
use Rattle.smtp_reply.specs.declared.reply.Reply.{Reply}
use Rattle.smtp_reply.specs.declared.reply.Lost.{Lost}
use Rattle.smtp_reply.specs.declared.reply.Lost.TheVariants.{Ended, BadReply, TooLong}
use Rattle.smtp_reply.specs.declared.reply.Outcome.{Outcome}
use Rattle.smtp_reply.specs.declared.reply.Outcome.TheVariants as outcome
use Rattle.smtp_reply.specs.declared.reader.Heard.{Heard}
use Rattle.smtp_reply.specs.declared.reader.Heard.TheVariants.{Whole, More, Bad}
use Rattle.smtp_reply.specs.declared.reader.Heard.TheVariants as heard_as
use Rattle.smtp_reply.specs.Replies.{heard, code_of, one_line_text}
use Rattle.smtp_dialogue.specs.Body.{crlf, wire}

-- how the link stands after a part: it serves further, or it does not, or a reply was due of which the bytes hold no
-- whole one and nothing wrong
pub data Standing : Type 0 where
  alive : Standing
  over : Standing
  waiting : Standing

abbrev pub is_alive : Standing → Bool
is_alive alive = true
is_alive over = false
is_alive waiting = false

pub record Spoken : Type 0 where
  -- what the client sends
  pub sent : List ℕ
  -- what became of the messages that were tried, in order
  pub outcomes : List Outcome
  pub standing : Standing
  -- the bytes left to read
  pub rest : List ℕ

-- a part that says nothing more
abbrev pub ends : List Outcome → Standing → List ℕ → Spoken
ends outcomes standing rest = record { sent = []; outcomes = outcomes; standing = standing; rest = rest }

-- these bytes are sent, and then the part goes on
abbrev pub says : List ℕ → Spoken → Spoken
says bytes s = record { sent = bytes ++ s.sent; outcomes = s.outcomes; standing = s.standing; rest = s.rest }

-- by what so many bytes are that these begin with; where that is no whole reply, `lost` tells the outcomes
abbrev pub on_heard : (ℕ → List ℕ → List ℕ → Spoken) → (Lost → List Outcome) → Heard → ℕ → List ℕ → Spoken
on_heard next lost Whole used bytes = next (code_of (take used bytes)) (one_line_text (take used bytes)) (drop used bytes)
on_heard next lost More used bytes = ends (lost Ended) waiting bytes
on_heard next lost (Bad at) used bytes = ends (lost BadReply) over bytes
on_heard next lost heard_as.TooLong used bytes = ends (lost TooLong) over bytes

-- a reply is due: `next` goes on with its code, its one-line text and the bytes behind it
abbrev pub answered : (ℕ → List ℕ → List ℕ → Spoken) → (Lost → List Outcome) → List ℕ → Spoken
answered next lost bytes = on_heard next lost (heard bytes).what (heard bytes).used bytes

-- one part and then the next, where the link serves further
abbrev pub joined_at : Standing → Spoken → (List ℕ → Spoken) → Spoken
joined_at alive first next =
    let second = next first.rest in
    record {
      sent = first.sent ++ second.sent;
      outcomes = first.outcomes ++ second.outcomes;
      standing = second.standing;
      rest = second.rest;
    }
joined_at over first next = first
joined_at waiting first next = first

abbrev pub followed_by : Spoken → (List ℕ → Spoken) → Spoken
followed_by first next = joined_at first.standing first next

-- no outcome, and the outcome of an attempt of which no reply decides
abbrev pub no_outcome : Lost → List Outcome
no_outcome why = []

abbrev pub lost_for : Lost → List Outcome
lost_for why = outcome.Lost why ∷ []

-- a reply that is positive, and one that is not
abbrev pub is_positive : ℕ → Bool
is_positive code = code / 100 == 2

abbrev pub reply_of : ℕ → List ℕ → Reply
reply_of code text = record { code = code; text = text }

-- the greeting and EHLO
abbrev pub after_ehlo : ℕ → List ℕ → List ℕ → Spoken
after_ehlo code text bytes = if is_positive code then ends [] alive bytes else ends [] over bytes

abbrev pub after_greeting : List ℕ → ℕ → List ℕ → List ℕ → Spoken
after_greeting ehlo code text bytes =
    if is_positive code then says (codes "EHLO " ++ ehlo ++ crlf) (answered after_ehlo no_outcome bytes)
    else ends [] over bytes

unfoldable pub greeting : List ℕ → List ℕ → Spoken
greeting ehlo bytes = answered (after_greeting ehlo) no_outcome bytes

-- a refused command: RSET, except after 421; what comes of RSET changes no outcome
abbrev pub after_reset : Outcome → ℕ → List ℕ → List ℕ → Spoken
after_reset decided code text bytes =
    if is_positive code then ends (decided ∷ []) alive bytes else ends (decided ∷ []) over bytes

abbrev pub resets : Outcome → ℕ → List ℕ → Spoken
resets decided code bytes =
    if code == 421 then ends (decided ∷ []) over bytes
    else says (codes "RSET" ++ crlf) (answered (after_reset decided) (λ why. decided ∷ []) bytes)

abbrev pub refused : ℕ → List ℕ → List ℕ → Spoken
refused code text bytes =
    if code / 100 == 4 then resets (outcome.Transient (reply_of code text)) code bytes
    else (if code / 100 == 5 then resets (outcome.Permanent (reply_of code text)) code bytes
    else ends (lost_for BadReply) over bytes)

-- one attempt: MAIL, RCPT, DATA and the body, one reply after each
abbrev pub after_body : ℕ → List ℕ → List ℕ → Spoken
after_body code text bytes =
    if is_positive code then ends (outcome.Delivered (reply_of code text) ∷ []) alive bytes
    else (if code == 421 then ends (outcome.Transient (reply_of code text) ∷ []) over bytes
    else (if code / 100 == 4 then ends (outcome.Transient (reply_of code text) ∷ []) alive bytes
    else (if code / 100 == 5 then ends (outcome.Permanent (reply_of code text) ∷ []) alive bytes
    else ends (lost_for BadReply) over bytes)))

abbrev pub after_data : List ℕ → ℕ → List ℕ → List ℕ → Spoken
after_data body code text bytes =
    if code == 354 then says (wire body) (answered after_body lost_for bytes) else refused code text bytes

abbrev pub after_recipient : List ℕ → ℕ → List ℕ → List ℕ → Spoken
after_recipient body code text bytes =
    if is_positive code then says (codes "DATA" ++ crlf) (answered (after_data body) lost_for bytes)
    else refused code text bytes

abbrev pub after_sender : List ℕ → List ℕ → ℕ → List ℕ → List ℕ → Spoken
after_sender recipient body code text bytes =
    if is_positive code
    then says (codes "RCPT TO:<" ++ recipient ++ codes ">" ++ crlf) (answered (after_recipient body) lost_for bytes)
    else refused code text bytes

unfoldable pub attempted : List ℕ → List ℕ → List ℕ → List ℕ → Spoken
attempted sender recipient body bytes =
    says (codes "MAIL FROM:<" ++ sender ++ codes ">" ++ crlf) (answered (after_sender recipient body) lost_for bytes)

-- QUIT; its reply decides nothing
abbrev pub after_quit : ℕ → List ℕ → List ℕ → Spoken
after_quit code text bytes = ends [] over bytes

unfoldable pub parting : List ℕ → Spoken
parting bytes = says (codes "QUIT" ++ crlf) (answered after_quit no_outcome bytes)

-- the attempts of messages, one after the other while the link serves further
abbrev pub attempts : List Message → List ℕ → Spoken
attempts [] bytes = ends [] alive bytes
attempts (m ∷ more) bytes = followed_by (attempted m.sender m.recipient m.body bytes) (attempts more)

-- the greeting and the attempts
abbrev pub before_parting : List ℕ → List Message → List ℕ → Spoken
before_parting ehlo messages got = followed_by (greeting ehlo got) (attempts messages)

-- a whole session: QUIT stands at its end where it greeted and every attempt left the link alive
abbrev pub transcript : List ℕ → List Message → List ℕ → Spoken
transcript ehlo messages got = followed_by (before_parting ehlo messages got) parting

-- one list of bytes is the other's prefix
abbrev pub IsPrefix : List ℕ → List ℕ → Type 0
IsPrefix prefix whole = (rest : List ℕ) × (prefix ++ rest ≡ whole)

-- the session is the transcript of these messages. Where a fault was counted, its sent bytes are a prefix of it; where
-- none was, they are all of it, and a reply that was due and is not there was cut off by the end of the link.
pub record IsTranscript (ehlo : List ℕ) (messages : List Message) (s : Session) : Type 0 where
  pub prefix : IsPrefix s.sent (transcript ehlo messages s.got).sent
  pub whole : s.faults ≡ 0 → s.sent ≡ (transcript ehlo messages s.got).sent
  pub ended : s.faults ≡ 0 → (transcript ehlo messages s.got).standing ≡ waiting → s.ended ≡ true
