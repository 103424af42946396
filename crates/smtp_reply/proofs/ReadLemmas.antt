-- What a reader did with bytes, and what holds of a whole reply.
use Rattle.std.proofs.Common.{◌≡◌, ℕ, ◌+◌, ◌<◌, ◌≤◌, List, [], ◌∷◌, ◌++◌, length, take, drop, Bool, true, false, cond, nat_lt, min, refl, ap, sym, subst, ◌∙◌, arith}
use Rattle.std.proofs.lemmas.List.{length_push, length-append, length-take-le, take-append-drop, append_assoc}
use Rattle.smtp_reply.specs.declared.place.Place.{Place}
use Rattle.smtp_reply.specs.declared.place.Place.TheVariants.{Code}
use Rattle.smtp_reply.specs.declared.place.Digit.TheVariants.{First}
use Rattle.smtp_reply.specs.declared.place.Next.{Next}
use Rattle.smtp_reply.specs.declared.place.Next.TheVariants as next
use Rattle.smtp_reply.specs.declared.reader.Fed.{Fed}
use Rattle.smtp_reply.specs.declared.reader.Heard.{Heard}
use Rattle.smtp_reply.specs.declared.reader.Heard.TheVariants.{Whole, More, Bad, TooLong}
use Rattle.smtp_reply.specs.declared.reader.ReplyReader.{ReplyReader}
use Rattle.smtp_reply.specs.declared.reader.TheConstants.{REPLY_LIMIT}
use Rattle.smtp_reply.specs.Grammar.{is_reply, is_front}
use Rattle.smtp_reply.specs.Replies.{heard, fed, one_line_text}
use Rattle.smtp_reply.specs.Reading.{Makes, Keeps, Reads, Feeds, Stands, answer_of, next_place}
use Rattle.smtp_reply.proofs.HeardLemmas.{answer_by, heard_byte, heard_stays, more_is_short}

reads_from : (after : ReplyReader) (bytes : List ℕ) (answer : Fed) → heard bytes ≡ answer → after.answered ≡ answer.what → answer.used ≡ length bytes → after.count ≡ length bytes → Keeps answer.what after bytes → Reads after bytes
reads_from after bytes answer is answered used count keeps = record {
  answered_is = answered ∙ sym (ap (λ (f : Fed). f.what) is);
  all_used = ap (λ (f : Fed). f.used) is ∙ used;
  count_is = count;
  keeps = subst (λ (h : Heard). Keeps h after bytes) (sym answered) keeps;
}

answer_whole : (reply front short : Bool) (n : ℕ) (rest : Fed) → reply ≡ true → answer_by reply front short n rest ≡ fed (n + 1) Whole
answer_whole true front short n rest e = refl
answer_whole false front short n rest e = absurd cc

answer_bad : (reply front short : Bool) (n : ℕ) (rest : Fed) → reply ≡ false → front ≡ false → answer_by reply front short n rest ≡ fed (n + 1) (Bad n)
answer_bad true front short n rest e f = absurd cc
answer_bad false true short n rest e f = absurd cc
answer_bad false false short n rest e f = refl

answer_front : (reply front short : Bool) (n : ℕ) (rest : Fed) → reply ≡ false → front ≡ true → answer_by reply front short n rest ≡ cond short rest (fed (n + 1) TooLong)
answer_front true front short n rest e f = absurd cc
answer_front false true short n rest e f = refl
answer_front false false short n rest e f = absurd cc

reads_front : (after : ReplyReader) (bytes : List ℕ) (b : ℕ) (place : Place) (short : Bool) → heard (bytes ++ b ∷ []) ≡ cond short (fed (length (bytes ++ b ∷ [])) More) (fed (length bytes + 1) TooLong)
    → Stands place after.said (bytes ++ b ∷ []) → after.answered ≡ cond short More TooLong → after.count ≡ length bytes + 1 → after.place ≡ place → Reads after (bytes ++ b ∷ [])
reads_front after bytes b place true is stands answered count at =
    reads_from after (bytes ++ b ∷ []) (fed (length (bytes ++ b ∷ [])) More) is answered refl (omega (arith, length_push bytes b))
    (subst (λ (p : Place). Stands p after.said (bytes ++ b ∷ [])) (sym at) stands)
reads_front after bytes b place false is stands answered count at =
    reads_from after (bytes ++ b ∷ []) (fed (length bytes + 1) TooLong) is answered (omega (arith, length_push bytes b)) (omega (arith, length_push bytes b)) tt

-- a reader of a front that took a byte more
pub reads_byte : (step : Next) (after : ReplyReader) (bytes : List ℕ) (b : ℕ) → (heard bytes).what ≡ More → Makes step after.said (bytes ++ b ∷ [])
    → after.answered ≡ answer_of step (length bytes) → after.count ≡ length bytes + 1 → (old : Place) → after.place ≡ next_place step old → Reads after (bytes ++ b ∷ [])
reads_byte next.Whole after bytes b more makes answered count old at =
    let longer = bytes ++ b ∷ [] in
    reads_from after (bytes ++ b ∷ []) (fed (length bytes + 1) Whole)
    (heard_byte bytes b more ∙ answer_whole (is_reply longer) (is_front longer) (nat_lt (length bytes + 1) REPLY_LIMIT) (length bytes) (fed (length longer) More) makes.0)
    answered (omega (arith, length_push bytes b)) (omega (arith, length_push bytes b)) makes.1
reads_byte (next.Front place) after bytes b more makes answered count old at =
    let longer = bytes ++ b ∷ [] in
    reads_front after bytes b place (nat_lt (length bytes + 1) REPLY_LIMIT)
    (heard_byte bytes b more ∙ answer_front (is_reply longer) (is_front longer) (nat_lt (length bytes + 1) REPLY_LIMIT) (length bytes) (fed (length longer) More) makes.0 makes.1.front)
    makes.1 answered count at
reads_byte next.Bad after bytes b more makes answered count old at =
    let longer = bytes ++ b ∷ [] in
    reads_from after (bytes ++ b ∷ []) (fed (length bytes + 1) (Bad (length bytes)))
    (heard_byte bytes b more ∙ answer_bad (is_reply longer) (is_front longer) (nat_lt (length bytes + 1) REPLY_LIMIT) (length bytes) (fed (length longer) More) makes.0 makes.1)
    answered (omega (arith, length_push bytes b)) (omega (arith, length_push bytes b)) tt

-- a reader that had its answer before the piece ended
pub feeds_part : (so_far piece : List ℕ) (used : ℕ) (reader : ReplyReader) → used ≤ length piece → (reader.answered ≡ More → ⊥) → Reads reader (so_far ++ take used piece) → Feeds so_far piece (record { used = used; what = reader.answered }) reader
feeds_part so_far piece used reader fits answered reads =
    let front = so_far ++ take used piece in
    let same : front ++ drop used piece ≡ so_far ++ piece = append_assoc so_far (take used piece) (drop used piece) ∙ ap (λ (p : List ℕ). so_far ++ p) (take-append-drop used piece) in
    let stays : heard (so_far ++ piece) ≡ heard front = ap heard (sym same) ∙ heard_stays front (drop used piece) (λ e. answered (reads.answered_is ∙ e)) in
    record {
      what = reads.answered_is ∙ sym (ap (λ (f : Fed). f.what) stays);
      used = omega (arith, ap (λ (f : Fed). f.used) stays, reads.all_used, length-append so_far (take used piece), length-take-le used piece fits);
      reads = reads;
    }

-- a reader of the next reply
pub reads_nothing : (reader : ReplyReader) → reader.answered ≡ More → reader.count ≡ 0 → reader.place ≡ Code First → reader.said.text ≡ [] → Reads reader []
unfolding heard one_line_text
reads_nothing reader answered count place text = record {
  answered_is = answered;
  all_used = refl;
  count_is = count;
  keeps = subst (λ (h : Heard). Keeps h reader []) (sym answered) (subst (λ (p : Place). Stands p reader.said []) (sym place) (record { front = refl; place_is = refl; tells = record { code_is = refl; text_is = text } }));
}

pub more_place : (reader : ReplyReader) (bytes : List ℕ) → reader.answered ≡ More → Reads reader bytes → Stands reader.place reader.said bytes
more_place reader bytes e reads = subst (λ (h : Heard). Keeps h reader bytes) e reads.keeps

-- the count stays far below its type's end
pub count_more : (reader : ReplyReader) (bytes : List ℕ) (count : ℕ) → reader.answered ≡ More → Reads reader bytes → count ≡ min (reader.count + 1) 18446744073709551615 → count ≡ length bytes + 1
count_more reader bytes count e reads is =
    let short : length bytes < REPLY_LIMIT = more_is_short bytes (sym reads.answered_is ∙ e) in
    omega (arith, reads.count_is)
