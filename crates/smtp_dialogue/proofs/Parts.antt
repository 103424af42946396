-- A part of the transcript from the steps that it takes: words, the reply to them, and what goes on behind it.
use Rattle.std.proofs.Common.{◌≡◌, ℕ, ◌≤◌, ◌⊎◌, List, [], ◌++◌, codes, Bool, true, false, Option, Ok, Err, refl, ap, ap₂, sym, subst, inl, inr, ◌∙◌, append_assoc, append-nil, le_trans, arith}
use Rattle.std.proofs.lemmas.Bool.{false≢true}
use Rattle.kumo_base.specs.Causes.{Rose}
use Rattle.kumo_outside.specs.Content.{told_with, TakesPrefix, TakesProperPrefix}
use Rattle.smtp_reply.specs.declared.reply.Outcome.{Outcome}
use Rattle.smtp_reply.specs.declared.reply.Lost.{Lost}
use Rattle.smtp_reply.specs.declared.reply.Lost.TheVariants.{LinkFault, Ended, BadReply, TooLong}
use Rattle.smtp_reply.specs.declared.reader.Heard.{Heard}
use Rattle.smtp_reply.specs.Replies.{heard, code_of, one_line_text}
use Rattle.smtp_dialogue.specs.Body.{crlf}
use Rattle.smtp_dialogue.specs.Transcript.{Spoken, Standing, over, waiting, is_alive, ends, says, on_heard, answered}
use Rattle.smtp_dialogue.specs.Speaks.{Side, WentThrough, IsCutAtReset, IsCutShort, Speaks}
use Rattle.smtp_dialogue.specs.inside.Asking.{Sends, FailsToSend, IsReply, IsAnswer, Hears, FailsToAsk, Asks}
use Rattle.smtp_dialogue.specs.inside.Tries.{standing_of}
use Rattle.kumo_outside.proofs.ContentLemmas.{told_with-next, told_with-nil, TakesPrefix-after, TakesProperPrefix-after, TakesProperPrefix-more, TakesPrefix-proper, TakesPrefix-whole}
use Rattle.smtp_dialogue.proofs.Stability.{answered_whole}

whole_behind : (old mid new : Side) (words : List ℕ) (v t : Spoken) (o : List Outcome) (a : Bool) → mid.link.sent ≡ told_with old.link.sent words → v ≡ says words t → WentThrough t mid new o a → WentThrough v old new o a
whole_behind old mid new words v t o a m e w = record {
  sent = told_with-next old.link.sent mid.link.sent new.link.sent words t.sent m w.sent ∙ ap (λ (s : Spoken). told_with old.link.sent s.sent) (sym e);
  outcomes_are = w.outcomes_are ∙ ap (λ (s : Spoken). s.outcomes) (sym e);
  alive_is = w.alive_is ∙ ap (λ (s : Spoken). is_alive s.standing) (sym e);
  left = λ l. w.left l ∙ ap (λ (s : Spoken). s.rest) (sym e);
  waited = λ l. w.waited (ap (λ (s : Spoken). s.standing) (sym e) ∙ l);
}

-- words before a part that was cut at RSET
pub reset_behind : (old mid new : Side) (words : List ℕ) (v t : Spoken) → mid.link.sent ≡ told_with old.link.sent words → v.sent ≡ words ++ t.sent → IsCutAtReset t mid new → IsCutAtReset v old new
reset_behind old mid new words v t m e c = record {
  before = words ++ c.before;
  last = e ∙ ap (λ (sent : List ℕ). words ++ sent) c.last ∙ sym (append_assoc words c.before (codes "RSET" ++ crlf));
  sent_before = subst (λ (sent : Option (List ℕ)). TakesPrefix sent new.link.sent (codes "RSET" ++ crlf)) (told_with-next old.link.sent mid.link.sent (told_with mid.link.sent c.before) words c.before m refl) c.sent_before;
}

short_behind : (old mid new : Side) (words : List ℕ) (v t : Spoken) (f o : List Outcome) (a : Bool) → old.link.faults ≤ mid.link.faults → mid.link.sent ≡ told_with old.link.sent words → v ≡ says words t → IsCutShort t mid new f o a → IsCutShort v old new f o a
short_behind old mid new words v t f o a later m e c = record {
  rose = omega (arith, c.rose);
  alive_is = c.alive_is;
  not_ended = c.not_ended;
  prefix = subst (λ (s : Spoken). TakesPrefix old.link.sent new.link.sent s.sent) (sym e) (TakesPrefix-after old.link.sent mid.link.sent new.link.sent words t.sent m c.prefix);
  short = elim c.short [
    | inl w ↦ inl (ap (λ (s : Spoken). s.standing) e ∙ w)
    | inr p ↦ inr (subst (λ (s : Spoken). TakesProperPrefix old.link.sent new.link.sent s.sent) (sym e) (TakesProperPrefix-after old.link.sent mid.link.sent new.link.sent words t.sent m p))
  ];
  outcomes_are = elim c.outcomes_are [ inl d ↦ inl d | inr d ↦ inr (d.0 ∙ ap (λ (s : Spoken). s.outcomes) (sym e), reset_behind old mid new words v t m (ap (λ (s : Spoken). s.sent) e) d.1) ];
}

-- words were sent and bytes came, and then what goes on behind them went its way
speaks_behind : (part next : List ℕ → Spoken) (old mid new : Side) (words came : List ℕ) (f o : List Outcome) (a : Bool)
    → mid.link.sent ≡ told_with old.link.sent words → mid.link.got ≡ told_with old.link.got came → old.link.faults ≤ mid.link.faults
    → ((more : List ℕ) → part (old.unread ++ (came ++ more)) ≡ says words (next (mid.unread ++ more))) → Speaks next mid new f o a → Speaks part old new f o a
speaks_behind part next old mid new words came f o a m g later e y = record {
  more = came ++ y.more;
  grows = told_with-next old.link.got mid.link.got new.link.got came y.more g y.grows;
  later = le_trans later y.later;
  spoke = elim y.spoke [
    | inl w ↦ inl (whole_behind old mid new words (part (old.unread ++ (came ++ y.more))) (next (mid.unread ++ y.more)) o a m (e y.more) w)
    | inr c ↦ inr (short_behind old mid new words (part (old.unread ++ (came ++ y.more))) (next (mid.unread ++ y.more)) f o a later m (e y.more) c)
  ];
}

-- two parts that are the same
pub speaks_same : {part next : List ℕ → Spoken} {old new : Side} {f o : List Outcome} {a : Bool} → ((bytes : List ℕ) → part bytes ≡ next bytes) → Speaks next old new f o a → Speaks part old new f o a
speaks_same {part} {next} {old} {new} {f} {o} {a} e y =
    speaks_behind part next old old new [] [] f o a (sym (told_with-nil old.link.sent)) (sym (told_with-nil old.link.got)) (omega arith) (λ more. e (old.unread ++ more)) y

over_not_waiting : over ≡ waiting → ⊥
over_not_waiting w = cc

-- a part that says nothing more
pub speaks_ends : (part : List ℕ → Spoken) (old : Side) (f o : List Outcome) (a : Bool) → ((bytes : List ℕ) → part bytes ≡ ends o (standing_of a) bytes) → Speaks part old old f o a
speaks_ends part old f o true e = record {
  more = [];
  grows = sym (told_with-nil old.link.got);
  later = omega arith;
  spoke = inl (subst (λ (t : Spoken). WentThrough t old old o true) (sym (e (old.unread ++ []))) (record { sent = sym (told_with-nil old.link.sent); outcomes_are = refl; alive_is = refl; left = λ _. sym (append-nil old.unread); waited = λ w. absurd (let n : true ≡ false = ap is_alive w in false≢true (sym n)) }));
}
speaks_ends part old f o false e = record {
  more = [];
  grows = sym (told_with-nil old.link.got);
  later = omega arith;
  spoke = inl (subst (λ (t : Spoken). WentThrough t old old o false) (sym (e (old.unread ++ []))) (record { sent = sym (told_with-nil old.link.sent); outcomes_are = refl; alive_is = refl; left = λ l. absurd (false≢true l); waited = λ w. absurd (over_not_waiting w) }));
}

-- the bytes behind a reply
reply_behind : (next : ℕ → List ℕ → List ℕ → Spoken) (lost : Lost → List Outcome) (unread came more reply left : List ℕ) → IsReply (unread ++ came) reply left
    → answered next lost (unread ++ (came ++ more)) ≡ next (code_of reply) (one_line_text reply) (left ++ more)
reply_behind next lost unread came more reply left r =
    ap (answered next lost) (sym (append_assoc unread came more))
    ∙ answered_whole next lost (unread ++ came) more r.whole
    ∙ ap₂ (λ (reply rest : List ℕ). next (code_of reply) (one_line_text reply) (rest ++ more)) (sym r.reply_is) (sym r.left_is)

-- a reply was read, and then what goes on behind it went its way
pub heard_then : (part : List ℕ → Spoken) (next : ℕ → List ℕ → List ℕ → Spoken) (lost : Lost → List Outcome) {old mid new : Side} {T : Type 0} {reply : List ℕ} {x : T} {f o : List Outcome} {a : Bool}
    → ((bytes : List ℕ) → part bytes ≡ answered next lost bytes) → Hears old mid reply (Ok x) → Speaks (next (code_of reply) (one_line_text reply)) mid new f o a → Speaks part old new f o a
heard_then part next lost {old} {mid} {new} {T} {reply} {x} {f} {o} {a} e h y =
    speaks_behind part (next (code_of reply) (one_line_text reply)) old mid new [] h.more f o a (h.sent_is ∙ sym (told_with-nil old.link.sent)) h.grows h.later
    (λ more. e (old.unread ++ (h.more ++ more)) ∙ reply_behind next lost old.unread h.more more reply mid.unread h.answer) y

said_then : (part next : List ℕ → Spoken) (words : List ℕ) (old mid new : Side) (f o : List Outcome) (a : Bool) → ((bytes : List ℕ) → part bytes ≡ says words (next bytes)) → mid.unread ≡ old.unread
    → Sends words old.link mid.link → Speaks next mid new f o a → Speaks part old new f o a
said_then part next words old mid new f o a e u s y =
    speaks_behind part next old mid new words [] f o a s.whole (s.got_is ∙ sym (told_with-nil old.link.got)) s.later
    (λ more. e (old.unread ++ more) ∙ ap (λ (unread : List ℕ). says words (next (unread ++ more))) (sym u)) y

-- words were sent and a reply was read, and then what goes on behind it went its way
pub asked_then : (part : List ℕ → Spoken) (next : ℕ → List ℕ → List ℕ → Spoken) (lost : Lost → List Outcome) {words : List ℕ} {old mid new : Side} {T : Type 0} {reply : List ℕ} {x : T} {f o : List Outcome} {a : Bool}
    → ((bytes : List ℕ) → part bytes ≡ says words (answered next lost bytes)) → Asks words old mid reply (Ok x) → Speaks (next (code_of reply) (one_line_text reply)) mid new f o a → Speaks part old new f o a
asked_then part next lost {words} {old} {mid} {new} {T} {reply} {x} {f} {o} {a} e asks y = elim asks [
  | inl p ↦ absurd (let r : Ok x ≡ Err LinkFault = p.result_is in cc)
  | inr p ↦ said_then part (answered next lost) words old p.mid new f o a e p.same p.says_them (heard_then (answered next lost) next lost (λ bytes. refl) p.hears y)
]

whole_none : (old new : Side) (v : Spoken) (o : List Outcome) (standing : Standing) (bytes : List ℕ) → v ≡ ends o standing bytes → new.link.sent ≡ old.link.sent → is_alive standing ≡ false
    → (standing ≡ waiting → new.link.ended ≡ true) → WentThrough v old new o false
whole_none old new v o standing bytes e s d w = record {
  sent = s ∙ sym (told_with-nil old.link.sent) ∙ ap (λ (t : Spoken). told_with old.link.sent t.sent) (sym e);
  outcomes_are = ap (λ (t : Spoken). t.outcomes) (sym e);
  alive_is = sym d ∙ ap (λ (t : Spoken). is_alive t.standing) (sym e);
  left = λ l. absurd (false≢true l);
  waited = λ l. w (ap (λ (t : Spoken). t.standing) (sym e) ∙ l);
}

short_none : (old new : Side) (v : Spoken) (f o lost : List Outcome) (bytes : List ℕ) → v ≡ ends lost waiting bytes → new.link.sent ≡ old.link.sent → Rose old.link.faults new.link.faults → new.link.ended ≡ false
    → o ≡ f → IsCutShort v old new f o false
short_none old new v f o lost bytes e s r n d = record {
  rose = r;
  alive_is = refl;
  not_ended = n;
  prefix = TakesPrefix-whole old.link.sent new.link.sent v.sent (s ∙ sym (told_with-nil old.link.sent) ∙ ap (λ (t : Spoken). told_with old.link.sent t.sent) (sym e));
  short = inl (ap (λ (t : Spoken). t.standing) e);
  outcomes_are = inl d;
}

-- what a caller answers where no reply was read: the outcomes of that loss, or those of a fault
abbrev pub Answers : (List ℕ → Spoken) → (Lost → List Outcome) → List Outcome → List Outcome → Lost → Type 0
Answers part lost f o LinkFault = o ≡ f
Answers part lost f o Ended = o ≡ lost Ended
Answers part lost f o BadReply = o ≡ lost BadReply
Answers part lost f o TooLong = o ≡ lost TooLong

spoke_none : (why : Lost) (part : List ℕ → Spoken) (next : ℕ → List ℕ → List ℕ → Spoken) (lost : Lost → List Outcome) (T : Type 0) (old new : Side) (bytes reply : List ℕ) (f o : List Outcome)
    → part bytes ≡ answered next lost bytes → new.link.sent ≡ old.link.sent → IsAnswer {T = T} (Err why) bytes reply old new → Answers part lost f o why → WentThrough (part bytes) old new o false ⊎ IsCutShort (part bytes) old new f o false
spoke_none LinkFault part next lost T old new bytes reply f o e s h d =
    inr (short_none old new (part bytes) f o (lost Ended) bytes (e ∙ ap (λ (h : Heard). on_heard next lost h (heard bytes).used bytes) h.0) s h.1 h.2 d)
spoke_none Ended part next lost T old new bytes reply f o e s h d =
    inl (whole_none old new (part bytes) o waiting bytes (e ∙ ap (λ (h : Heard). on_heard next lost h (heard bytes).used bytes) h.0 ∙ ap (λ (o : List Outcome). ends o waiting bytes) (sym d)) s refl (λ _. h.1))
spoke_none BadReply part next lost T old new bytes reply f o e s h d =
    inl (whole_none old new (part bytes) o over bytes (e ∙ ap (λ (h : Heard). on_heard next lost h (heard bytes).used bytes) h.1 ∙ ap (λ (o : List Outcome). ends o over bytes) (sym d)) s refl (λ w. absurd (over_not_waiting w)))
spoke_none TooLong part next lost T old new bytes reply f o e s h d =
    inl (whole_none old new (part bytes) o over bytes (e ∙ ap (λ (h : Heard). on_heard next lost h (heard bytes).used bytes) h ∙ ap (λ (o : List Outcome). ends o over bytes) (sym d)) s refl (λ w. absurd (over_not_waiting w)))

-- no reply was read
pub heard_none : (why : Lost) (part : List ℕ → Spoken) (next : ℕ → List ℕ → List ℕ → Spoken) (lost : Lost → List Outcome) {T : Type 0} {old new : Side} {reply : List ℕ} {f o : List Outcome}
    → ((bytes : List ℕ) → part bytes ≡ answered next lost bytes) → Hears {T = T} old new reply (Err why) → Answers part lost f o why → Speaks part old new f o false
heard_none why part next lost {T} {old} {new} {reply} {f} {o} e h d = record {
  more = h.more;
  grows = h.grows;
  later = h.later;
  spoke = spoke_none why part next lost T old new (old.unread ++ h.more) reply f o (e (old.unread ++ h.more)) h.sent_is h.answer d;
}

Answers_behind : (why : Lost) (part next : List ℕ → Spoken) (words : List ℕ) (lost : Lost → List Outcome) (f o : List Outcome) → ((bytes : List ℕ) → part bytes ≡ says words (next bytes)) → Answers part lost f o why → Answers next lost f o why
Answers_behind LinkFault part next words lost f o e d = d
Answers_behind Ended part next words lost f o e d = d
Answers_behind BadReply part next words lost f o e d = d
Answers_behind TooLong part next words lost f o e d = d

unsaid : (part next : List ℕ → Spoken) (words : List ℕ) (old new : Side) (f o : List Outcome) → ((bytes : List ℕ) → part bytes ≡ says words (next bytes))
    → FailsToSend words old.link new.link → o ≡ f → Speaks part old new f o false
unsaid part next words old new f o e x d =
    let t = part (old.unread ++ []) in
    let sent : words ++ (next (old.unread ++ [])).sent ≡ t.sent = ap (λ (t : Spoken). t.sent) (sym (e (old.unread ++ []))) in
    let short : TakesProperPrefix old.link.sent new.link.sent t.sent = subst (TakesProperPrefix old.link.sent new.link.sent) sent (TakesProperPrefix-more old.link.sent new.link.sent words (next (old.unread ++ [])).sent x.part) in
    record {
      more = [];
      grows = x.got_is ∙ sym (told_with-nil old.link.got);
      later = x.later;
      spoke = inr (record {
        rose = x.rose;
        alive_is = refl;
        not_ended = x.not_ended;
        prefix = TakesPrefix-proper old.link.sent new.link.sent t.sent short;
        short = inr short;
        outcomes_are = inl d;
      });
    }

asked_none_by : (why : Lost) (part : List ℕ → Spoken) (next : ℕ → List ℕ → List ℕ → Spoken) (lost : Lost → List Outcome) {T : Type 0} (words : List ℕ) (old new : Side) (f o : List Outcome)
    → ((bytes : List ℕ) → part bytes ≡ says words (answered next lost bytes)) → FailsToAsk {T = T} words old new (Err why) → Answers part lost f o why → Speaks part old new f o false
asked_none_by LinkFault part next lost {T} words old new f o e x d = unsaid part (answered next lost) words old new f o e x.fails d
asked_none_by Ended part next lost {T} words old new f o e x d = absurd (let r = x.result_is in cc)
asked_none_by BadReply part next lost {T} words old new f o e x d = absurd (let r = x.result_is in cc)
asked_none_by TooLong part next lost {T} words old new f o e x d = absurd (let r = x.result_is in cc)

-- words were to be sent and a reply was to be read, and that failed
pub asked_none : (why : Lost) (part : List ℕ → Spoken) (next : ℕ → List ℕ → List ℕ → Spoken) (lost : Lost → List Outcome) {T : Type 0} {words : List ℕ} {old new : Side} {reply : List ℕ} {f o : List Outcome}
    → ((bytes : List ℕ) → part bytes ≡ says words (answered next lost bytes)) → Asks {T = T} words old new reply (Err why) → Answers part lost f o why → Speaks part old new f o false
asked_none why part next lost {T} {words} {old} {new} {reply} {f} {o} e asks d = elim asks [
  | inl x ↦ asked_none_by why part next lost words old new f o e x d
  | inr x ↦ said_then part (answered next lost) words old x.mid new f o false e x.same x.says_them
      (heard_none why (answered next lost) next lost (λ bytes. refl) x.hears (Answers_behind why part (answered next lost) words lost f o e d))
]

-- a part that says RSET and was cut short: what was decided before stays decided
pub cut_at_reset : {t : Spoken} {old new : Side} {f : List Outcome} (o : List Outcome) → t.sent ≡ codes "RSET" ++ crlf → t.outcomes ≡ o → IsCutShort t old new f f false → IsCutShort t old new f o false
cut_at_reset {t} {old} {new} {f} o s d c = record {
  rose = c.rose;
  alive_is = c.alive_is;
  not_ended = c.not_ended;
  prefix = c.prefix;
  short = c.short;
  outcomes_are = inr (
    sym d,
    record {
      before = [];
      last = s;
      sent_before = subst (λ (sent : List ℕ). TakesPrefix (told_with old.link.sent []) new.link.sent sent) s (subst (λ (sent : Option (List ℕ)). TakesPrefix sent new.link.sent t.sent) (sym (told_with-nil old.link.sent)) c.prefix);
    },
  );
}
