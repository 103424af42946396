-- Parts that leave the link alive stay as they were when more bytes come.
use Rattle.std.proofs.Common.{◌≡◌, ℕ, ◌/◌, ◌==◌, List, [], ◌∷◌, ◌++◌, take, drop, codes, Bool, true, false, cond, refl, ap, ap₂, sym, ◌∙◌}
use Rattle.std.proofs.lemmas.List.{take-append-le, drop-append-le}
use Rattle.std.proofs.lemmas.Bool.{false≢true}
use Rattle.queue_name.specs.declared.message.Message.{Message}
use Rattle.smtp_reply.specs.declared.reply.Lost.{Lost}
use Rattle.smtp_reply.specs.declared.reply.Outcome.{Outcome}
use Rattle.smtp_reply.specs.declared.reply.Outcome.TheVariants as outcome
use Rattle.smtp_reply.specs.declared.reply.Lost.TheVariants.{BadReply}
use Rattle.smtp_reply.specs.declared.reader.Heard.{Heard}
use Rattle.smtp_reply.specs.declared.reader.Heard.TheVariants.{Whole, More, Bad, TooLong}
use Rattle.smtp_reply.specs.declared.reader.Fed.{Fed}
use Rattle.smtp_reply.specs.Replies.{heard, code_of, one_line_text}
use Rattle.smtp_dialogue.specs.Body.{crlf, wire}
use Rattle.smtp_dialogue.specs.Transcript.{Spoken, Standing, alive, over, waiting, is_alive, ends, says, on_heard, answered, joined_at, followed_by, no_outcome, lost_for, is_positive, reply_of, after_ehlo, after_greeting, greeting, after_reset, resets, refused, after_body, after_data, after_recipient, after_sender, attempted, attempts}
use Rattle.smtp_dialogue.specs.Speaks.{with_more, IsStable}
use Rattle.smtp_reply.proofs.HeardLemmas.{heard_stays}
use Rattle.smtp_reply.proofs.WholeLemmas.{whole_within}

-- a part that says nothing more
ends_stable : (outcomes : List Outcome) (standing : Standing) → IsStable (λ bytes. ends outcomes standing bytes)
ends_stable outcomes standing bytes more e = refl

-- a part that says these bytes first
says_stable : (words : List ℕ) (part : List ℕ → Spoken) → IsStable part → IsStable (λ bytes. says words (part bytes))
says_stable words part s bytes more e = ap (says words) (s bytes more e)

-- a choice that does not look at the bytes
if_stable : (t : Bool) (p q : List ℕ → Spoken) → IsStable p → IsStable q → IsStable (λ bytes. cond t (p bytes) (q bytes))
if_stable true p q s t bytes more e = s bytes more e
if_stable false p q s t bytes more e = t bytes more e

-- nothing is more than a whole reply
whole_not_more : (h : Heard) → h ≡ Whole → h ≡ More → ⊥
whole_not_more h e f = cc

-- a whole reply, and what stands behind it with more
pub answered_whole : (next : ℕ → List ℕ → List ℕ → Spoken) (lost : Lost → List Outcome) (bytes more : List ℕ) → (heard bytes).what ≡ Whole
    → answered next lost (bytes ++ more) ≡ next (code_of (take (heard bytes).used bytes)) (one_line_text (take (heard bytes).used bytes)) (drop (heard bytes).used bytes ++ more)
answered_whole next lost bytes more e =
    let used = (heard bytes).used in
    let within = whole_within bytes e in
    ap (λ (f : Fed). on_heard next lost f.what f.used (bytes ++ more)) (heard_stays bytes more (whole_not_more (heard bytes).what e))
    ∙ ap (λ (h : Heard). on_heard next lost h used (bytes ++ more)) e
    ∙ ap₂ (λ (reply rest : List ℕ). next (code_of reply) (one_line_text reply) rest) (take-append-le used bytes more within) (drop-append-le used bytes more within)

answered_by : (next : ℕ → List ℕ → List ℕ → Spoken) (lost : Lost → List Outcome) → ((code : ℕ) (text : List ℕ) → IsStable (next code text))
    → (bytes more : List ℕ) (h : Heard) → (heard bytes).what ≡ h → is_alive (on_heard next lost h (heard bytes).used bytes).standing ≡ true
    → answered next lost (bytes ++ more) ≡ with_more more (on_heard next lost h (heard bytes).used bytes)
answered_by next lost s bytes more Whole e l =
    let reply = take (heard bytes).used bytes in
    answered_whole next lost bytes more e ∙ s (code_of reply) (one_line_text reply) (drop (heard bytes).used bytes) more l
answered_by next lost s bytes more More e l = absurd (false≢true l)
answered_by next lost s bytes more (Bad at) e l = absurd (false≢true l)
answered_by next lost s bytes more TooLong e l = absurd (false≢true l)

-- a reply, and what goes on behind it
answered_stable : (next : ℕ → List ℕ → List ℕ → Spoken) (lost : Lost → List Outcome) → ((code : ℕ) (text : List ℕ) → IsStable (next code text)) → IsStable (answered next lost)
answered_stable next lost s bytes more l = answered_by next lost s bytes more (heard bytes).what refl l

joined_stable : (standing : Standing) (first : Spoken) (next : List ℕ → Spoken) → IsStable next → (more : List ℕ) → is_alive (joined_at standing first next).standing ≡ true → first.standing ≡ standing
    → joined_at standing (with_more more first) next ≡ with_more more (joined_at standing first next)
joined_stable alive first next s more l e =
    ap (λ (second : Spoken). record { sent = first.sent ++ second.sent; outcomes = first.outcomes ++ second.outcomes; standing = second.standing; rest = second.rest }) (s first.rest more l)
joined_stable over first next s more l e = refl
joined_stable waiting first next s more l e = refl

joined_alive : (standing : Standing) (first : Spoken) (next : List ℕ → Spoken) → first.standing ≡ standing → is_alive (joined_at standing first next).standing ≡ true → is_alive standing ≡ true
joined_alive alive first next e l = refl
joined_alive over first next e l = ap is_alive (sym e) ∙ l
joined_alive waiting first next e l = ap is_alive (sym e) ∙ l

-- one stable part and then another
pub parts_stable : (first second : List ℕ → Spoken) → IsStable first → IsStable second → IsStable (λ bytes. followed_by (first bytes) second)
parts_stable first second s t bytes more l =
    let before = joined_alive (first bytes).standing (first bytes) second refl l in
    ap (λ (f : Spoken). followed_by f second) (s bytes more before) ∙ joined_stable (first bytes).standing (first bytes) second t more l refl

pub greeting_stable : (ehlo : List ℕ) → IsStable (greeting ehlo)
unfolding greeting
greeting_stable ehlo =
    answered_stable (after_greeting ehlo) no_outcome
    (λ code text. if_stable (is_positive code) (λ bytes. says (codes "EHLO " ++ ehlo ++ crlf) (answered after_ehlo no_outcome bytes)) (λ bytes. ends [] over bytes)
    (says_stable (codes "EHLO " ++ ehlo ++ crlf) (answered after_ehlo no_outcome)
    (answered_stable after_ehlo no_outcome
    (λ code text. if_stable (is_positive code) (λ bytes. ends [] alive bytes) (λ bytes. ends [] over bytes) (ends_stable [] alive) (ends_stable [] over))))
    (ends_stable [] over))

resets_stable : (decided : Outcome) (code : ℕ) → IsStable (resets decided code)
resets_stable decided code =
    if_stable (code == 421) (λ bytes. ends (decided ∷ []) over bytes) (λ bytes. says (codes "RSET" ++ crlf) (answered (after_reset decided) (λ why. decided ∷ []) bytes))
    (ends_stable (decided ∷ []) over)
    (says_stable (codes "RSET" ++ crlf) (answered (after_reset decided) (λ why. decided ∷ []))
    (answered_stable (after_reset decided) (λ why. decided ∷ [])
    (λ code text. if_stable (is_positive code) (λ bytes. ends (decided ∷ []) alive bytes) (λ bytes. ends (decided ∷ []) over bytes) (ends_stable (decided ∷ []) alive) (ends_stable (decided ∷ []) over))))

refused_stable : (code : ℕ) (text : List ℕ) → IsStable (refused code text)
refused_stable code text =
    if_stable (code / 100 == 4) (resets (outcome.Transient (reply_of code text)) code) (λ bytes. cond (code / 100 == 5) (resets (outcome.Permanent (reply_of code text)) code bytes) (ends (lost_for BadReply) over bytes))
    (resets_stable (outcome.Transient (reply_of code text)) code)
    (if_stable (code / 100 == 5) (resets (outcome.Permanent (reply_of code text)) code) (λ bytes. ends (lost_for BadReply) over bytes)
    (resets_stable (outcome.Permanent (reply_of code text)) code) (ends_stable (lost_for BadReply) over))

after_body_stable : (code : ℕ) (text : List ℕ) → IsStable (after_body code text)
after_body_stable code text =
    if_stable (is_positive code) (λ bytes. ends (outcome.Delivered (reply_of code text) ∷ []) alive bytes) (λ bytes. cond (code == 421) (ends (outcome.Transient (reply_of code text) ∷ []) over bytes) (cond (code / 100 == 4) (ends (outcome.Transient (reply_of code text) ∷ []) alive bytes) (cond (code / 100 == 5) (ends (outcome.Permanent (reply_of code text) ∷ []) alive bytes) (ends (lost_for BadReply) over bytes))))
    (ends_stable (outcome.Delivered (reply_of code text) ∷ []) alive)
    (if_stable (code == 421) (λ bytes. ends (outcome.Transient (reply_of code text) ∷ []) over bytes) (λ bytes. cond (code / 100 == 4) (ends (outcome.Transient (reply_of code text) ∷ []) alive bytes) (cond (code / 100 == 5) (ends (outcome.Permanent (reply_of code text) ∷ []) alive bytes) (ends (lost_for BadReply) over bytes)))
    (ends_stable (outcome.Transient (reply_of code text) ∷ []) over)
    (if_stable (code / 100 == 4) (λ bytes. ends (outcome.Transient (reply_of code text) ∷ []) alive bytes) (λ bytes. cond (code / 100 == 5) (ends (outcome.Permanent (reply_of code text) ∷ []) alive bytes) (ends (lost_for BadReply) over bytes))
    (ends_stable (outcome.Transient (reply_of code text) ∷ []) alive)
    (if_stable (code / 100 == 5) (λ bytes. ends (outcome.Permanent (reply_of code text) ∷ []) alive bytes) (λ bytes. ends (lost_for BadReply) over bytes)
    (ends_stable (outcome.Permanent (reply_of code text) ∷ []) alive) (ends_stable (lost_for BadReply) over))))

after_data_stable : (body : List ℕ) (code : ℕ) (text : List ℕ) → IsStable (after_data body code text)
after_data_stable body code text =
    if_stable (code == 354) (λ bytes. says (wire body) (answered after_body lost_for bytes)) (refused code text)
    (says_stable (wire body) (answered after_body lost_for) (answered_stable after_body lost_for after_body_stable)) (refused_stable code text)

after_recipient_stable : (body : List ℕ) (code : ℕ) (text : List ℕ) → IsStable (after_recipient body code text)
after_recipient_stable body code text =
    if_stable (is_positive code) (λ bytes. says (codes "DATA" ++ crlf) (answered (after_data body) lost_for bytes)) (refused code text)
    (says_stable (codes "DATA" ++ crlf) (answered (after_data body) lost_for) (answered_stable (after_data body) lost_for (after_data_stable body))) (refused_stable code text)

after_sender_stable : (recipient body : List ℕ) (code : ℕ) (text : List ℕ) → IsStable (after_sender recipient body code text)
after_sender_stable recipient body code text =
    if_stable (is_positive code) (λ bytes. says (codes "RCPT TO:<" ++ recipient ++ codes ">" ++ crlf) (answered (after_recipient body) lost_for bytes)) (refused code text)
    (says_stable (codes "RCPT TO:<" ++ recipient ++ codes ">" ++ crlf) (answered (after_recipient body) lost_for) (answered_stable (after_recipient body) lost_for (after_recipient_stable body)))
    (refused_stable code text)

pub attempted_stable : (sender recipient body : List ℕ) → IsStable (attempted sender recipient body)
unfolding attempted
attempted_stable sender recipient body =
    says_stable (codes "MAIL FROM:<" ++ sender ++ codes ">" ++ crlf) (answered (after_sender recipient body) lost_for)
    (answered_stable (after_sender recipient body) lost_for (after_sender_stable recipient body))

-- any number of attempts
pub attempts_stable : (messages : List Message) → IsStable (attempts messages)
attempts_stable [] = ends_stable [] alive
attempts_stable (m ∷ more) = parts_stable (attempted m.sender m.recipient m.body) (attempts more) (attempted_stable m.sender m.recipient m.body) (attempts_stable more)
