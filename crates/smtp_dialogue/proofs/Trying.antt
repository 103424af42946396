-- One try of a message from its stages.
use Rattle.std.proofs.Common.{◌≡◌, ℕ, ◌≤◌, ◌/◌, ◌==◌, List, [], ◌∷◌, ◌++◌, take, codes, Bool, true, false, cond, Result, Ok, Err, refl, ap, sym, subst, inl, inr, ◌∙◌, append_assoc, le_trans, arith}
use Rattle.kumo_base.specs.Causes.{Rose}
use Rattle.smtp_reply.specs.declared.reply.Reply.{Reply}
use Rattle.smtp_reply.specs.declared.reply.Outcome.{Outcome}
use Rattle.smtp_reply.specs.declared.reply.Outcome.TheVariants as outcome
use Rattle.smtp_reply.specs.declared.reply.Lost.{Lost}
use Rattle.smtp_reply.specs.declared.reply.Lost.TheVariants.{LinkFault, Ended, BadReply, TooLong}
use Rattle.smtp_reply.specs.declared.reader.Heard.{Heard}
use Rattle.smtp_reply.specs.declared.reader.Heard.TheVariants.{Whole, More, Bad}
use Rattle.smtp_reply.specs.declared.reader.Heard.TheVariants as heard_as
use Rattle.smtp_reply.specs.Replies.{heard, code_of, one_line_text, reply_of}
use Rattle.smtp_dialogue.specs.declared.delivery.Tried.{Tried}
use Rattle.smtp_dialogue.specs.Body.{crlf, wire}
use Rattle.smtp_dialogue.specs.Transcript.{Spoken, alive, over, ends, says, on_heard, answered, lost_for, no_outcome, is_positive, after_ehlo, after_greeting, after_reset, resets, refused, after_body, after_data, after_recipient, after_sender, attempted, after_quit, parting, greeting}
use Rattle.smtp_dialogue.specs.Speaks.{Side, Speaks}
use Rattle.smtp_dialogue.specs.inside.Asking.{Asks}
use Rattle.smtp_dialogue.specs.inside.Tries.{Tries, IsDecided, standing_of}
use Rattle.smtp_dialogue.proofs.Parts.{speaks_same, speaks_ends, asked_then, asked_none, Answers, cut_at_reset}

-- a count that rose after it did not fall
rose_later : (a b c : ℕ) → a ≤ b → Rose b c → Rose a c
rose_later a b c l r = omega arith

asks_later : {T : Type 0} (words : List ℕ) (old mid : Side) (reply : List ℕ) (x : T) → Asks words old mid reply (Ok x) → old.link.faults ≤ mid.link.faults
asks_later words old mid reply x asks = elim asks [
  | inl p ↦ absurd (let r : Ok x ≡ Err LinkFault = p.result_is in cc)
  | inr p ↦ le_trans p.says_them.later p.hears.later
]

-- words were sent and a reply was read, and then the try went on
pub tries_then : (part : List ℕ → Spoken) (next : ℕ → List ℕ → List ℕ → Spoken) {T : Type 0} {words : List ℕ} {old mid new : Side} {reply : List ℕ} {x : T} {tried : Tried}
    → ((bytes : List ℕ) → part bytes ≡ says words (answered next lost_for bytes)) → Asks words old mid reply (Ok x) → Tries (next (code_of reply) (one_line_text reply)) mid new tried → Tries part old new tried
tries_then part next {T} {words} {old} {mid} {new} {reply} {x} {tried} e asks t = record {
  speaks = asked_then part next lost_for e asks t.speaks;
  fault = λ f. rose_later old.link.faults mid.link.faults new.link.faults (asks_later words old mid reply x asks) (t.fault f);
  ended = t.ended;
  delivered = t.delivered;
  proper = t.proper;
}

rose_of : {T : Type 0} (words : List ℕ) (old new : Side) (reply : List ℕ) (why : Lost) → Asks {T = T} words old new reply (Err why) → why ≡ LinkFault → Rose old.link.faults new.link.faults
rose_of words old new reply LinkFault asks e = elim asks [
  | inl x ↦ x.fails.rose
  | inr x ↦ rose_later old.link.faults x.mid.link.faults new.link.faults x.says_them.later x.hears.answer.1
]
rose_of words old new reply Ended asks e = absurd cc
rose_of words old new reply BadReply asks e = absurd cc
rose_of words old new reply TooLong asks e = absurd cc

ended_of : {T : Type 0} (words : List ℕ) (old new : Side) (reply : List ℕ) (why : Lost) → Asks {T = T} words old new reply (Err why) → why ≡ Ended → new.link.ended ≡ true
ended_of words old new reply Ended asks e = elim asks [
  | inl x ↦ absurd (let r = x.result_is in cc)
  | inr x ↦ x.hears.answer.1
]
ended_of words old new reply LinkFault asks e = absurd cc
ended_of words old new reply BadReply asks e = absurd cc
ended_of words old new reply TooLong asks e = absurd cc

answers_lost : (why : Lost) (part : List ℕ → Spoken) → Answers part lost_for (lost_for LinkFault) (lost_for why) why
answers_lost LinkFault part = refl
answers_lost Ended part = refl
answers_lost BadReply part = refl
answers_lost TooLong part = refl

-- no reply was read, and the try is lost
pub tries_lost : (why : Lost) (part : List ℕ → Spoken) (next : ℕ → List ℕ → List ℕ → Spoken) {T : Type 0} {words : List ℕ} {old new : Side} {reply : List ℕ} (tried : Tried)
    → ((bytes : List ℕ) → part bytes ≡ says words (answered next lost_for bytes)) → Asks {T = T} words old new reply (Err why) → tried ≡ record { outcome = outcome.Lost why; alive = false } → Tries part old new tried
tries_lost why part next {T} {words} {old} {new} {reply} tried e asks is =
    subst (λ (tried : Tried). Tries part old new tried) (sym is) (record {
      speaks = asked_none why part next lost_for e asks (answers_lost why part);
      fault = λ f. rose_of words old new reply why asks cc;
      ended = λ f. ended_of words old new reply why asks cc;
      delivered = λ reply f. absurd cc;
      proper = tt;
    })

-- a stage that goes on as another
pub tries_same : {part next : List ℕ → Spoken} {old new : Side} {tried : Tried} → ((bytes : List ℕ) → part bytes ≡ next bytes) → Tries next old new tried → Tries part old new tried
tries_same {part} {next} {old} {new} {tried} e t = record { speaks = speaks_same e t.speaks; fault = t.fault; ended = t.ended; delivered = t.delivered; proper = t.proper }

-- a stage that goes on with the reply that was taken
pub tries_reply : (next : ℕ → List ℕ → List ℕ → Spoken) (reply : List ℕ) {taken : Reply} {old new : Side} {tried : Tried} → taken ≡ reply_of reply → Tries (next taken.code taken.text) old new tried
    → Tries (next (code_of reply) (one_line_text reply)) old new tried
tries_reply next reply {taken} {old} {new} {tried} e t = subst (λ (r : Reply). Tries (next r.code r.text) old new tried) e t

-- a stage that decides
pub tries_decided : {part : List ℕ → Spoken} {old : Side} {tried : Tried} → ((bytes : List ℕ) → part bytes ≡ ends (tried.outcome ∷ []) (standing_of tried.alive) bytes) → IsDecided tried.outcome
    → ((reply : Reply) → tried.outcome ≡ outcome.Delivered reply → tried.alive ≡ true) → Tries part old old tried
tries_decided {part} {old} {tried} e d delivered = record {
  speaks = speaks_ends part old (outcome.Lost LinkFault ∷ []) (tried.outcome ∷ []) tried.alive e;
  fault = λ f. absurd (d.no_fault f);
  ended = λ f. absurd (d.no_end f);
  delivered = delivered;
  proper = d.proper;
}

-- the outcome is decided before RSET
reset_decided_by : (decided : Outcome) (t : Bool) (bytes : List ℕ) → (cond t (ends (decided ∷ []) alive bytes) (ends (decided ∷ []) over bytes)).outcomes ≡ decided ∷ []
reset_decided_by decided true bytes = refl
reset_decided_by decided false bytes = refl

reset_decided : (decided : Outcome) (h : Heard) (used : ℕ) (bytes : List ℕ) → (on_heard (after_reset decided) (λ why. decided ∷ []) h used bytes).outcomes ≡ decided ∷ []
reset_decided decided Whole used bytes = reset_decided_by decided (is_positive (code_of (take used bytes))) _
reset_decided decided More used bytes = refl
reset_decided decided (Bad at) used bytes = refl
reset_decided decided heard_as.TooLong used bytes = refl

pub resets_at : (decided : Outcome) (code : ℕ) → (code == 421) ≡ false → (bytes : List ℕ) → resets decided code bytes ≡ says (codes "RSET" ++ [] ++ crlf) (answered (after_reset decided) (λ why. decided ∷ []) bytes)
resets_at decided code e bytes = rw e refl

reset_silent_by : (decided : Outcome) (t : Bool) (bytes : List ℕ) → (cond t (ends (decided ∷ []) alive bytes) (ends (decided ∷ []) over bytes)).sent ≡ []
reset_silent_by decided true bytes = refl
reset_silent_by decided false bytes = refl

reset_silent : (decided : Outcome) (h : Heard) (used : ℕ) (bytes : List ℕ) → (on_heard (after_reset decided) (λ why. decided ∷ []) h used bytes).sent ≡ []
reset_silent decided Whole used bytes = reset_silent_by decided (is_positive (code_of (take used bytes))) _
reset_silent decided More used bytes = refl
reset_silent decided (Bad at) used bytes = refl
reset_silent decided heard_as.TooLong used bytes = refl

-- nothing but RSET is sent, and the outcome is what was decided
resets_sent : (decided : Outcome) (code : ℕ) → (code == 421) ≡ false → (bytes : List ℕ) → (resets decided code bytes).sent ≡ codes "RSET" ++ crlf
resets_sent decided code e bytes =
    ap (λ (t : Spoken). t.sent) (resets_at decided code e bytes)
    ∙ ap (λ (sent : List ℕ). codes "RSET" ++ crlf ++ sent) (reset_silent decided (heard bytes).what (heard bytes).used bytes)

resets_outcomes : (decided : Outcome) (code : ℕ) → (code == 421) ≡ false → (bytes : List ℕ) → (resets decided code bytes).outcomes ≡ decided ∷ []
resets_outcomes decided code e bytes =
    ap (λ (t : Spoken). t.outcomes) (resets_at decided code e bytes) ∙ reset_decided decided (heard bytes).what (heard bytes).used bytes

no_fault_decided : (decided : Outcome) (t : Spoken) → IsDecided decided → (outcome.Lost LinkFault ∷ []) ≡ t.outcomes → t.outcomes ≡ decided ∷ [] → ⊥
no_fault_decided decided t d e f = d.no_fault (let g : (outcome.Lost LinkFault ∷ []) ≡ decided ∷ [] = e ∙ f in cc)

-- a fault behind the decision
reset_cut : (decided : Outcome) (code : ℕ) {old new : Side} → (code == 421) ≡ false → IsDecided decided → Speaks (resets decided code) old new (outcome.Lost LinkFault ∷ []) (outcome.Lost LinkFault ∷ []) false
    → Speaks (resets decided code) old new (outcome.Lost LinkFault ∷ []) (decided ∷ []) false
reset_cut decided code {old} {new} e d x =
    let bytes = old.unread ++ x.more in
    record {
      more = x.more;
      grows = x.grows;
      later = x.later;
      spoke = elim x.spoke [
        | inl w ↦ absurd (no_fault_decided decided (resets decided code bytes) d w.outcomes_are (resets_outcomes decided code e bytes))
        | inr c ↦ inr (cut_at_reset (decided ∷ []) (resets_sent decided code e bytes) (resets_outcomes decided code e bytes) c)
      ];
    }

reset_unheard : (why : Lost) (decided : Outcome) (code : ℕ) {T : Type 0} {old new : Side} {reply : List ℕ} → (code == 421) ≡ false → IsDecided decided → Asks {T = T} (codes "RSET" ++ [] ++ crlf) old new reply (Err why)
    → Speaks (resets decided code) old new (outcome.Lost LinkFault ∷ []) (decided ∷ []) false
reset_unheard LinkFault decided code e d asks = reset_cut decided code e d (asked_none LinkFault (resets decided code) (after_reset decided) (λ why. decided ∷ []) (resets_at decided code e) asks refl)
reset_unheard Ended decided code e d asks = asked_none Ended (resets decided code) (after_reset decided) (λ why. decided ∷ []) (resets_at decided code e) asks refl
reset_unheard BadReply decided code e d asks = asked_none BadReply (resets decided code) (after_reset decided) (λ why. decided ∷ []) (resets_at decided code e) asks refl
reset_unheard TooLong decided code e d asks = asked_none TooLong (resets decided code) (after_reset decided) (λ why. decided ∷ []) (resets_at decided code e) asks refl

-- no reply to RSET was read
pub reset_lost : (why : Lost) (decided : Outcome) (code : ℕ) {T : Type 0} {old new : Side} {reply : List ℕ} → (code == 421) ≡ false → IsDecided decided → ((reply : Reply) → decided ≡ outcome.Delivered reply → ⊥) → Asks {T = T} (codes "RSET" ++ [] ++ crlf) old new reply (Err why)
    → Tries (resets decided code) old new (record { outcome = decided; alive = false })
reset_lost why decided code e d n asks = record {
  speaks = reset_unheard why decided code e d asks;
  fault = λ f. absurd (d.no_fault f);
  ended = λ f. absurd (d.no_end f);
  delivered = λ reply f. absurd (n reply f);
  proper = d.proper;
}

after_reset_at : (decided : Outcome) (t : Bool) (bytes : List ℕ) → cond t (ends (decided ∷ []) alive bytes) (ends (decided ∷ []) over bytes) ≡ ends (decided ∷ []) (standing_of t) bytes
after_reset_at decided true bytes = refl
after_reset_at decided false bytes = refl

-- the reply to RSET was read
pub reset_done : (decided : Outcome) (code : ℕ) (live : Bool) {T : Type 0} {old new : Side} {reply : List ℕ} {x : T} → (code == 421) ≡ false → IsDecided decided → ((reply : Reply) → decided ≡ outcome.Delivered reply → ⊥) → live ≡ is_positive (code_of reply) → Asks (codes "RSET" ++ [] ++ crlf) old new reply (Ok x)
    → Tries (resets decided code) old new (record { outcome = decided; alive = live })
reset_done decided code live {T} {old} {new} {reply} {x} e d n l asks = record {
  speaks = asked_then (resets decided code) (after_reset decided) (λ why. decided ∷ []) (resets_at decided code e) asks
      (speaks_ends (after_reset decided (code_of reply) (one_line_text reply)) new _ (decided ∷ []) live (λ bytes. after_reset_at decided (is_positive (code_of reply)) bytes ∙ ap (λ (t : Bool). ends (decided ∷ []) (standing_of t) bytes) (sym l)));
  fault = λ f. absurd (d.no_fault f);
  ended = λ f. absurd (d.no_end f);
  delivered = λ reply f. absurd (n reply f);
  proper = d.proper;
}

-- what each stage says
command_is : (front argument : List ℕ) → front ++ argument ++ (62 ∷ crlf) ≡ front ++ argument ++ codes ">" ++ crlf
command_is front argument = sym (append_assoc (front ++ argument) (codes ">") crlf)

pub sender_says : (recipient body : List ℕ) (code : ℕ) (text : List ℕ) → is_positive code ≡ true → (bytes : List ℕ)
    → after_sender recipient body code text bytes ≡ says (codes "RCPT TO:<" ++ recipient ++ (62 ∷ crlf)) (answered (after_recipient body) lost_for bytes)
sender_says recipient body code text e bytes =
    rw e (ap (λ (words : List ℕ). says words (answered (after_recipient body) lost_for bytes)) (sym (command_is (codes "RCPT TO:<") recipient)))

pub recipient_says : (body : List ℕ) (code : ℕ) (text : List ℕ) → is_positive code ≡ true → (bytes : List ℕ) → after_recipient body code text bytes ≡ says (codes "DATA" ++ [] ++ crlf) (answered (after_data body) lost_for bytes)
recipient_says body code text e bytes = rw e refl

pub sender_refused : (recipient body : List ℕ) (code : ℕ) (text : List ℕ) → is_positive code ≡ false → (bytes : List ℕ) → after_sender recipient body code text bytes ≡ refused code text bytes
sender_refused recipient body code text e bytes = rw e refl

pub recipient_refused : (body : List ℕ) (code : ℕ) (text : List ℕ) → is_positive code ≡ false → (bytes : List ℕ) → after_recipient body code text bytes ≡ refused code text bytes
recipient_refused body code text e bytes = rw e refl

pub data_says : (body : List ℕ) (code : ℕ) (text : List ℕ) → (code == 354) ≡ true → (bytes : List ℕ) → after_data body code text bytes ≡ says (wire body) (answered after_body lost_for bytes)
data_says body code text e bytes = rw e refl

pub data_refused : (body : List ℕ) (code : ℕ) (text : List ℕ) → (code == 354) ≡ false → (bytes : List ℕ) → after_data body code text bytes ≡ refused code text bytes
data_refused body code text e bytes = rw e refl

pub attempted_says : (sender recipient body bytes : List ℕ) → attempted sender recipient body bytes ≡ says (codes "MAIL FROM:<" ++ sender ++ (62 ∷ crlf)) (answered (after_sender recipient body) lost_for bytes)
unfolding attempted
attempted_says sender recipient body bytes =
    ap (λ (words : List ℕ). says words (answered (after_sender recipient body) lost_for bytes)) (sym (command_is (codes "MAIL FROM:<") sender))

-- the receiver closed the link
pub reset_closed : (decided : Outcome) (code : ℕ) → (code == 421) ≡ true → (bytes : List ℕ) → resets decided code bytes ≡ ends (decided ∷ []) over bytes
reset_closed decided code e bytes = rw e refl

-- a reply that may not stand there
pub tries_bad : {part : List ℕ → Spoken} {old : Side} {tried : Tried} → ((bytes : List ℕ) → part bytes ≡ ends (lost_for BadReply) over bytes) → tried ≡ record { outcome = outcome.Lost BadReply; alive = false } → Tries part old old tried
tries_bad {part} {old} {tried} e is =
    subst (λ (tried : Tried). Tries part old old tried) (sym is)
    (tries_decided e (record { no_fault = λ f. cc; no_end = λ f. cc; proper = tt }) (λ reply f. absurd cc))

pub refused_transient : (code : ℕ) (text : List ℕ) → (code / 100 == 4) ≡ true → (bytes : List ℕ) → refused code text bytes ≡ resets (outcome.Transient (record { code = code; text = text })) code bytes
refused_transient code text e bytes = rw e refl

pub refused_permanent : (code : ℕ) (text : List ℕ) → (code / 100 == 4) ≡ false → (code / 100 == 5) ≡ true → (bytes : List ℕ) → refused code text bytes ≡ resets (outcome.Permanent (record { code = code; text = text })) code bytes
refused_permanent code text e f bytes = rw (e, f) refl

pub refused_bad : (code : ℕ) (text : List ℕ) → (code / 100 == 4) ≡ false → (code / 100 == 5) ≡ false → (bytes : List ℕ) → refused code text bytes ≡ ends (lost_for BadReply) over bytes
refused_bad code text e f bytes = rw (e, f) refl

-- EHLO is said
pub hello_says : (ehlo : List ℕ) (code : ℕ) (text : List ℕ) → is_positive code ≡ true → (bytes : List ℕ) → after_greeting ehlo code text bytes ≡ says (codes "EHLO " ++ ehlo ++ crlf) (answered after_ehlo no_outcome bytes)
hello_says ehlo code text e bytes = rw e refl

pub greeting_refused : (ehlo : List ℕ) (code : ℕ) (text : List ℕ) → is_positive code ≡ false → (bytes : List ℕ) → after_greeting ehlo code text bytes ≡ ends [] over bytes
greeting_refused ehlo code text e bytes = rw e refl

pub greeting_is : (ehlo bytes : List ℕ) → greeting ehlo bytes ≡ answered (after_greeting ehlo) no_outcome bytes
unfolding greeting
greeting_is ehlo bytes = refl

-- no outcome, whatever was lost
pub answers_none : (why : Lost) (part : List ℕ → Spoken) → Answers part no_outcome [] [] why
answers_none LinkFault part = refl
answers_none Ended part = refl
answers_none BadReply part = refl
answers_none TooLong part = refl

parting_says : (bytes : List ℕ) → parting bytes ≡ says (codes "QUIT" ++ [] ++ crlf) (answered after_quit no_outcome bytes)
unfolding parting
parting_says bytes = refl

-- QUIT was said, whatever came of it
pub parted : {T : Type 0} (answer : Result T Lost) (old new : Side) (reply : List ℕ) → Asks (codes "QUIT" ++ [] ++ crlf) old new reply answer → Speaks parting old new [] [] false
parted (Ok x) old new reply asks = asked_then parting after_quit no_outcome parting_says asks (speaks_ends (after_quit (code_of reply) (one_line_text reply)) new [] [] false (λ bytes. refl))
parted (Err why) old new reply asks = asked_none why parting after_quit no_outcome parting_says asks (answers_none why parting)
