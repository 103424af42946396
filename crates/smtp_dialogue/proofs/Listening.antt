-- Bytes that came one after the other, and the reply that they begin with.
use Rattle.std.proofs.Common.{◌≡◌, ℕ, ◌+◌, ◌-◌, ◌≤◌, ◌<◌, List, [], ◌++◌, length, take, drop, Ok, Err, refl, ap, sym, subst, ◌∙◌, append_assoc, append-nil, take-append-drop, length-append, length-drop, le_trans, arith}
use Rattle.std.proofs.lemmas.List.{length-take-le, nil_from_length}
use Rattle.std.proofs.Math.Seq.{take-append-add, drop-append-add}
use Rattle.kumo_outside.specs.Content.{told_with}
use Rattle.smtp_reply.specs.declared.reply.Reply.{Reply}
use Rattle.smtp_reply.specs.declared.reply.Lost.{Lost}
use Rattle.smtp_reply.specs.declared.reply.Lost.TheVariants.{LinkFault, Ended, BadReply, TooLong}
use Rattle.smtp_reply.specs.declared.reader.Heard.TheVariants.{Whole, More, Bad}
use Rattle.smtp_reply.specs.declared.reader.Heard.TheVariants as heard_as
use Rattle.smtp_reply.specs.declared.reader.Fed.{Fed}
use Rattle.smtp_reply.specs.Replies.{heard, code_of, one_line_text, reply_of}
use Rattle.smtp_reply.specs.ReplyText.{IsReplyText}
use Rattle.smtp_reply.specs.declared.reader.ReplyReader.{ReplyReader}
use Rattle.smtp_reply.specs.Reading.{Reads, Feeds}
use Rattle.smtp_dialogue.specs.inside.Holding.{Holds, HoldsReply}
use Rattle.smtp_dialogue.specs.Speaks.{Side, side}
use Rattle.smtp_dialogue.specs.inside.Asking.{Gets, IsCutOff, IsAnswer, Hears}
use Rattle.kumo_outside.proofs.ContentLemmas.{told_with-next, told_with-nil}
use Rattle.smtp_reply.proofs.HeardLemmas.{more_is_short, more_uses_all}
use Rattle.smtp_reply.proofs.WholeLemmas.{reader_proper}

-- nothing came
pub gets_none : (old new : Side) → new.link.got ≡ old.link.got → new.link.sent ≡ old.link.sent → new.unread ≡ old.unread → old.link.faults ≤ new.link.faults → Gets old new
gets_none old new g s u f = record {
  more = [];
  grows = g ∙ sym (told_with-nil old.link.got);
  added = u ∙ sym (append-nil old.unread);
  sent_is = s;
  later = f;
}

-- on the way through a reply: what was read of it, what is unread behind that, and how many bytes it may still have
pub record IsReading (old new : Side) (reader : ReplyReader) (left : ℕ) : Type 0 where
  pub so_far : List ℕ
  pub more : List ℕ
  pub grows : new.link.got ≡ told_with old.link.got more
  pub sent_is : new.link.sent ≡ old.link.sent
  pub later : old.link.faults ≤ new.link.faults
  pub came : so_far ++ new.unread ≡ old.unread ++ more
  pub reads : Reads reader so_far
  pub left_is : length so_far + left ≡ 4096

-- nothing was read yet
pub reading_begins : (old : Side) (reader : ReplyReader) → Reads reader [] → IsReading old old reader 4096
reading_begins old reader r = record {
  so_far = [];
  more = [];
  grows = sym (told_with-nil old.link.got);
  sent_is = refl;
  later = omega arith;
  came = sym (append-nil old.unread);
  reads = r;
  left_is = omega arith;
}

-- bytes came
pub reading_gets : {s0 s1 s2 : Side} {reader : ReplyReader} {left : ℕ} → IsReading s0 s1 reader left → Gets s1 s2 → IsReading s0 s2 reader left
reading_gets {s0} {s1} {s2} {reader} {left} i g = record {
  so_far = i.so_far;
  more = i.more ++ g.more;
  grows = told_with-next s0.link.got s1.link.got s2.link.got i.more g.more i.grows g.grows;
  sent_is = g.sent_is ∙ i.sent_is;
  later = le_trans i.later g.later;
  came =
      ap (λ (unread : List ℕ). i.so_far ++ unread) g.added
      ∙ sym (append_assoc i.so_far s1.unread g.more)
      ∙ ap (λ (bytes : List ℕ). bytes ++ g.more) i.came
      ∙ append_assoc s0.unread i.more g.more;
  reads = i.reads;
  left_is = i.left_is;
}

-- the reply is not whole yet: all that is unread belongs to it, and it may still have some bytes
pub more_left : {s0 s1 : Side} {reader reader' : ReplyReader} {left : ℕ} {fed : Fed} (i : IsReading s0 s1 reader left) → Feeds i.so_far s1.unread fed reader' → fed.what ≡ More
    → (fed.used ≡ length s1.unread) × (length s1.unread < left)
more_left {s0} {s1} {reader} {reader'} {left} {fed} i f w =
    let bytes = i.so_far ++ s1.unread in
    let m : (heard bytes).what ≡ More = sym f.what ∙ w in
    let n : length bytes ≡ length i.so_far + length s1.unread = length-append i.so_far s1.unread in
    let used : length i.so_far + fed.used ≡ length bytes = f.used ∙ more_uses_all bytes m in
    let short : length bytes < 4096 = more_is_short bytes m in
    let total : length i.so_far + left ≡ 4096 = i.left_is in
    (omega (arith, n, used), omega (arith, n, short, total))

-- the part that the reader took of what is unread
rejoined : (so_far unread : List ℕ) (used : ℕ) → (so_far ++ take used unread) ++ drop used unread ≡ so_far ++ unread
rejoined so_far unread used = append_assoc so_far (take used unread) (drop used unread) ∙ ap (λ (bytes : List ℕ). so_far ++ bytes) (take-append-drop used unread)

-- the reader took all that was unread
pub reading_on : {s0 s1 : Side} {reader reader' : ReplyReader} {left : ℕ} {fed : Fed} {unread : List ℕ} (i : IsReading s0 s1 reader left) → Feeds i.so_far s1.unread fed reader' → fed.what ≡ More
    → unread ≡ drop fed.used s1.unread → IsReading s0 (side s1.link unread) reader' (left - fed.used)
reading_on {s0} {s1} {reader} {reader'} {left} {fed} {unread} i f w d =
    let m = more_left i f w in
    let n : length (i.so_far ++ take fed.used s1.unread) ≡ length i.so_far + length (take fed.used s1.unread) = length-append i.so_far (take fed.used s1.unread) in
    let k : length (take fed.used s1.unread) ≡ fed.used = length-take-le fed.used s1.unread (omega (arith, m.0)) in
    let total : length i.so_far + left ≡ 4096 = i.left_is in
    record {
      so_far = i.so_far ++ take fed.used s1.unread;
      more = i.more;
      grows = i.grows;
      sent_is = i.sent_is;
      later = i.later;
      came = ap (λ (unread : List ℕ). (i.so_far ++ take fed.used s1.unread) ++ unread) d ∙ rejoined i.so_far s1.unread fed.used ∙ i.came;
      reads = f.reads;
      left_is = omega (arith, n, k, total, m.0, m.1);
    }

-- what the reader answered is what the bytes are that came in all
heard_came : {s0 s1 : Side} {reader reader' : ReplyReader} {left : ℕ} {fed : Fed} (i : IsReading s0 s1 reader left) → Feeds i.so_far s1.unread fed reader' → (heard (s0.unread ++ i.more)).what ≡ fed.what
heard_came i f = ap (λ (bytes : List ℕ). (heard bytes).what) (sym i.came) ∙ sym f.what

none_added : (unread more : List ℕ) → unread ≡ unread ++ more → more ≡ []
none_added unread more e =
    let n : length unread ≡ length (unread ++ more) = ap length e in
    let m : length (unread ++ more) ≡ length unread + length more = length-append unread more in
    nil_from_length more (omega (arith, n, m))

cut_off_answer : (why : Lost) (T : Type 0) (bytes : List ℕ) (s0 s1 s2 : Side) → (heard bytes).what ≡ More → s0.link.faults ≤ s1.link.faults → IsCutOff why s1 s2 → IsAnswer {T = T} (Err why) bytes [] s0 s2
cut_off_answer LinkFault T bytes s0 s1 s2 h f c = (h, omega (arith, c.0, f), c.1)
cut_off_answer Ended T bytes s0 s1 s2 h f c = (h, c)
cut_off_answer BadReply T bytes s0 s1 s2 h f c = absurd c
cut_off_answer TooLong T bytes s0 s1 s2 h f c = absurd c

-- the reply was not whole yet, and no more bytes came
pub heard_cut_off : (why : Lost) {T : Type 0} {s0 s1 s2 : Side} {reader reader' : ReplyReader} {left : ℕ} {fed : Fed} {unread : List ℕ} (i : IsReading s0 s1 reader left) → Feeds i.so_far s1.unread fed reader'
    → fed.what ≡ More → Gets (side s1.link unread) s2 → s2.unread ≡ unread → IsCutOff why (side s1.link unread) s2 → Hears {T = T} s0 s2 [] (Err why)
heard_cut_off why {T} {s0} {s1} {s2} {reader} {reader'} {left} {fed} {unread} i f w g u c =
    let none : g.more ≡ [] = none_added unread g.more (sym u ∙ g.added) in
    let more : (heard (s0.unread ++ (i.more ++ g.more))).what ≡ More =
    ap (λ (m : List ℕ). (heard (s0.unread ++ (i.more ++ m))).what) none ∙ ap (λ (m : List ℕ). (heard (s0.unread ++ m)).what) (append-nil i.more) ∙ heard_came i f ∙ w in
    record {
      more = i.more ++ g.more;
      grows = told_with-next s0.link.got s1.link.got s2.link.got i.more g.more i.grows g.grows;
      sent_is = g.sent_is ∙ i.sent_is;
      later = le_trans i.later g.later;
      answer = cut_off_answer why T (s0.unread ++ (i.more ++ g.more)) s0 (side s1.link unread) s2 more i.later c;
    }

-- no reply goes on so
pub heard_bad : {T : Type 0} {s0 s1 : Side} {reader reader' : ReplyReader} {left : ℕ} {fed : Fed} (unread : List ℕ) (at : ℕ) (i : IsReading s0 s1 reader left) → Feeds i.so_far s1.unread fed reader' → fed.what ≡ Bad at
    → Hears {T = T} s0 (side s1.link unread) [] (Err BadReply)
heard_bad unread at i f w = record { more = i.more; grows = i.grows; sent_is = i.sent_is; later = i.later; answer = (at, heard_came i f ∙ w) }

pub heard_too_long : {T : Type 0} {s0 s1 : Side} {reader reader' : ReplyReader} {left : ℕ} {fed : Fed} (unread : List ℕ) (i : IsReading s0 s1 reader left) → Feeds i.so_far s1.unread fed reader' → fed.what ≡ heard_as.TooLong
    → Hears {T = T} s0 (side s1.link unread) [] (Err TooLong)
heard_too_long unread i f w = record { more = i.more; grows = i.grows; sent_is = i.sent_is; later = i.later; answer = heard_came i f ∙ w }

-- the bytes that a reader took, and those behind them
taken : (so_far unread bytes : List ℕ) (used n : ℕ) → so_far ++ unread ≡ bytes → length so_far + used ≡ n → so_far ++ take used unread ≡ take n bytes
taken so_far unread bytes used n e u =
    sym (take-append-add so_far unread used) ∙ ap (λ (m : ℕ). take m (so_far ++ unread)) u ∙ ap (take n) e

behind : (so_far unread bytes : List ℕ) (used n : ℕ) → so_far ++ unread ≡ bytes → length so_far + used ≡ n → drop used unread ≡ drop n bytes
behind so_far unread bytes used n e u =
    sym (drop-append-add so_far unread used) ∙ ap (λ (m : ℕ). drop m (so_far ++ unread)) u ∙ ap (drop n) e

-- a whole reply was read
pub heard_whole : {T : Type 0} (x : T) {s0 s1 : Side} {reader reader' : ReplyReader} {left : ℕ} {fed : Fed} {unread : List ℕ} (i : IsReading s0 s1 reader left) → Feeds i.so_far s1.unread fed reader' → fed.what ≡ Whole
    → unread ≡ drop fed.used s1.unread → Hears s0 (side s1.link unread) (i.so_far ++ take fed.used s1.unread) (Ok x)
heard_whole x {s0} {s1} {reader} {reader'} {left} {fed} {unread} i f w d =
    let bytes = s0.unread ++ i.more in
    let used : length i.so_far + fed.used ≡ (heard bytes).used = f.used ∙ ap (λ (b : List ℕ). (heard b).used) i.came in
    record {
      more = i.more;
      grows = i.grows;
      sent_is = i.sent_is;
      later = i.later;
      answer = record {
        whole = heard_came i f ∙ w;
        reply_is = taken i.so_far s1.unread bytes fed.used (heard bytes).used i.came used;
        left_is = d ∙ behind i.so_far s1.unread bytes fed.used (heard bytes).used i.came used;
      };
    }

-- the text of a reply that a reader holds keeps the rules of a reply's text
pub held_text : {reader : ReplyReader} {reply : List ℕ} → Holds reader reply → IsReplyText (code_of reply) (one_line_text reply)
held_text {reader} {reply} h = (reader_proper reader reply h.whole h.reads).text

-- and so does the text of that reply once it is taken
pub held_reply_text : {reader : ReplyReader} {taken : Reply} → HoldsReply reader → ((bytes : List ℕ) → Reads reader bytes → taken ≡ reply_of bytes) → IsReplyText taken.code taken.text
held_reply_text {reader} {taken} h t = subst (λ (r : Reply). IsReplyText r.code r.text) (sym (t h.0 h.1.reads)) (held_text h.1)

-- nothing is unread where all of it was read
pub none_left : (before unread : List ℕ) (used : ℕ) → unread ≡ drop used before → used ≡ length before → length unread ≡ 0
none_left before unread used d e =
    let n : length (drop used before) ≡ length before - used = length-drop used before in
    let m : length unread ≡ length (drop used before) = ap length d in
    omega (arith, n, m)
