-- What holds of a whole reply.
use Rattle.std.proofs.Common.{◌≡◌, ℕ, ◌+◌, ◌-◌, ◌*◌, ◌/◌, ◌%◌, ◌<◌, ◌≤◌, ◌==◌, ◌&&◌, ◌⊎◌, inl, inr, List, [], ◌∷◌, ◌++◌, length, take, map, Bool, true, false, cond, nat_lt, zero, suc, refl, ap, sym, subst, ◌∙◌, ltb-true, arith}
use Rattle.std.proofs.lemmas.Bool.Decides.{nat_tests}
use Rattle.std.proofs.lemmas.List.{length_push, length-append, length-take, take_at, append_assoc, take_all}
use Rattle.std.specs.List.{list_all, flat_map}
use Rattle.kumo_base.specs.declared.room.TheConstants.{REPLY_TEXT_LIMIT}
use Rattle.smtp_reply.specs.declared.reader.Fed.{Fed}
use Rattle.smtp_reply.specs.declared.reader.Heard.{Heard}
use Rattle.smtp_reply.specs.declared.reader.Heard.TheVariants.{Whole}
use Rattle.smtp_reply.specs.declared.reader.ReplyReader.{ReplyReader}
use Rattle.smtp_reply.specs.declared.reader.TheConstants.{REPLY_LIMIT}
use Rattle.smtp_reply.specs.ReplyText.{IsReplyText, digits_of, is_printable}
use Rattle.smtp_reply.specs.Grammar.{is_reply, is_front, lines_of, code_in, is_first_digit, is_digit, is_code, is_code_front, are_reply_lines}
use Rattle.smtp_reply.specs.Replies.{heard, heard_from, number_in, code_of, printable_of, shown_text, shown_line, text_of_line, one_line_text}
use Rattle.smtp_reply.specs.Reading.{IsWhole, Reads, Tells, Keeps, digits_in, IsProperReply}
use Rattle.smtp_reply.proofs.HeardLemmas.{answer_by}
use Rattle.smtp_reply.proofs.FrontLemmas.{and_both, and_is, code_front_is_front, reply_is_no_front, true_not_false}

whole_by : (reply front short : Bool) (n : ℕ) (rest : Fed) → (answer_by reply front short n rest).what ≡ Whole
    → ((reply ≡ true) × ((answer_by reply front short n rest).used ≡ n + 1)) ⊎ ((short ≡ true) × (rest.what ≡ Whole) × (answer_by reply front short n rest ≡ rest))
whole_by true front short n rest e = inl (refl, refl)
whole_by false false short n rest e = absurd cc
whole_by false true false n rest e = absurd cc
whole_by false true true n rest e = inr (refl, e, refl)

-- bytes that begin with the rest of a reply
pub record Ends (before bytes : List ℕ) : Type 0 where
  pub taken : List ℕ
  pub left : List ℕ
  pub split : bytes ≡ taken ++ left
  pub reply : is_reply (before ++ taken) ≡ true
  pub used : (heard_from before bytes).used ≡ length (before ++ taken)
  pub short : length (before ++ taken) ≤ REPLY_LIMIT

abbrev Found : List ℕ → ℕ → List ℕ → Type 0
Found front b bytes =
    ((is_reply (front ++ b ∷ []) ≡ true) × ((heard_from front (b ∷ bytes)).used ≡ length front + 1))
    ⊎ ((nat_lt (length front + 1) REPLY_LIMIT ≡ true) × ((heard_from (front ++ b ∷ []) bytes).what ≡ Whole) × (heard_from front (b ∷ bytes) ≡ heard_from (front ++ b ∷ []) bytes))

ends_by : (front : List ℕ) (b : ℕ) (bytes : List ℕ) → length front < REPLY_LIMIT → Found front b bytes
    → ((length (front ++ b ∷ []) < REPLY_LIMIT) → ((heard_from (front ++ b ∷ []) bytes).what ≡ Whole) → Ends (front ++ b ∷ []) bytes) → Ends front (b ∷ bytes)
ends_by front b bytes short (inl is) more = record {
  taken = b ∷ [];
  left = bytes;
  split = refl;
  reply = is.0;
  used = is.1 ∙ sym (length_push front b);
  short = omega (arith, length_push front b);
}
ends_by front b bytes short (inr is) more =
    let lt : length front + 1 < REPLY_LIMIT = ltb-true (length front + 1) REPLY_LIMIT is.0 in
    let rest = more (omega (arith, length_push front b)) is.1 in
    let same : front ++ b ∷ [] ++ rest.taken ≡ front ++ b ∷ rest.taken = append_assoc front (b ∷ []) rest.taken in
    record {
      taken = b ∷ rest.taken;
      left = rest.left;
      split = ap (λ (m : List ℕ). b ∷ m) rest.split;
      reply = subst (λ (m : List ℕ). is_reply m ≡ true) same rest.reply;
      used = ap (λ (f : Fed). f.used) is.2 ∙ rest.used ∙ ap length same;
      short = subst (λ (m : List ℕ). length m ≤ REPLY_LIMIT) same rest.short;
    }

ends_at : (front bytes : List ℕ) → length front < REPLY_LIMIT → (heard_from front bytes).what ≡ Whole → Ends front bytes
ends_at front [] short e = absurd cc
ends_at front (b ∷ bytes) short e =
    ends_by front b bytes short (whole_by (is_reply (front ++ b ∷ [])) (is_front (front ++ b ∷ [])) (nat_lt (length front + 1) REPLY_LIMIT) (length front) (heard_from (front ++ b ∷ []) bytes) e)
    (λ lt w. ends_at (front ++ b ∷ []) bytes lt w)

ends : (bytes : List ℕ) → (heard bytes).what ≡ Whole → Ends [] bytes
unfolding heard
ends bytes e = ends_at [] bytes (omega arith) e

used_is : (bytes : List ℕ) (e : (heard bytes).what ≡ Whole) → (heard bytes).used ≡ length (ends bytes e).taken
unfolding heard
used_is bytes e = (ends bytes e).used

pub whole_within : (bytes : List ℕ) → (heard bytes).what ≡ Whole → (heard bytes).used ≤ length bytes
whole_within bytes e =
    let end = ends bytes e in
    omega (arith, used_is bytes e, ap length end.split, length-append end.taken end.left)

-- the bytes that a whole reply takes are a reply that is not too long
pub whole_taken : (bytes : List ℕ) → (heard bytes).what ≡ Whole → (is_reply (take (heard bytes).used bytes) ≡ true) × (length (take (heard bytes).used bytes) ≤ REPLY_LIMIT)
whole_taken bytes e =
    let end = ends bytes e in
    let same : take (heard bytes).used bytes ≡ end.taken = ap (take (heard bytes).used) end.split ∙ take_at end.taken end.left (heard bytes).used (sym (used_is bytes e)) in
    (ap is_reply same ∙ end.reply, subst (λ (m : List ℕ). length m ≤ REPLY_LIMIT) (sym same) end.short)

reply_code : (bytes : List ℕ) → is_reply bytes ≡ true → (length (code_in bytes) == 3) && is_code_front (code_in bytes) ≡ true
reply_code bytes e = (and_both (is_code (code_in bytes)) (are_reply_lines (code_in bytes) (lines_of bytes)) e).0

short_reply : (bytes : List ℕ) → is_reply bytes ≡ true → is_code_front bytes ≡ true → ⊥
short_reply bytes e f = true_not_false (sym (code_front_is_front bytes f) ∙ reply_is_no_front bytes e)

first_range : (b : ℕ) → is_first_digit b ≡ true → (50 ≤ b) × (b ≤ 53)
first_range b e = grind (arith, nat_tests)

digit_range : (b : ℕ) → is_digit b ≡ true → (48 ≤ b) × (b ≤ 57)
digit_range b e = grind (arith, nat_tests)

printable_cond : (b : ℕ) (t : Bool) → is_printable b ≡ t → is_printable (cond t b 63) ≡ true
printable_cond b true e = e
printable_cond b false e = refl

printable-append : (xs ys : List ℕ) → list_all is_printable xs ≡ true → list_all is_printable ys ≡ true → list_all is_printable (xs ++ ys) ≡ true
printable-append [] ys e f = f
printable-append (x ∷ xs) ys e f =
    let both = and_both (is_printable x) (list_all is_printable xs) e in
    and_is (is_printable x) (list_all is_printable (xs ++ ys)) both.0 (printable-append xs ys both.1 f)

printable-take : (n : ℕ) (xs : List ℕ) → list_all is_printable xs ≡ true → list_all is_printable (take n xs) ≡ true
printable-take zero xs e = refl
printable-take (suc n) [] e = refl
printable-take (suc n) (x ∷ xs) e =
    let both = and_both (is_printable x) (list_all is_printable xs) e in
    and_is (is_printable x) (list_all is_printable (take n xs)) both.0 (printable-take n xs both.1)

printable-map : (text : List ℕ) → list_all is_printable (map printable_of text) ≡ true
printable-map [] = refl
printable-map (b ∷ text) = and_is (is_printable (printable_of b)) (list_all is_printable (map printable_of text)) (printable_cond b (is_printable b) refl) (printable-map text)

printable_text : (text : List ℕ) → list_all is_printable (shown_text text) ≡ true
printable_text [] = refl
printable_text (b ∷ text) = printable-map (b ∷ text)

printable_lines : (lines : List (List ℕ)) → list_all is_printable (flat_map shown_line lines) ≡ true
printable_lines [] = refl
printable_lines (line ∷ lines) = printable-append (shown_line line) (flat_map shown_line lines) (printable_text (text_of_line line)) (printable_lines lines)

-- nothing, or a blank and something
abbrev Begins : List ℕ → Type 0
Begins text = (text ≡ []) ⊎ ((b : ℕ) × (more : List ℕ) × (text ≡ 32 ∷ (b ∷ more)))

begins_by : (text more : List ℕ) → Begins more → Begins (shown_text text ++ more)
begins_by [] more h = h
begins_by (b ∷ text) more h = inr (printable_of b, map printable_of text ++ more, refl)

begins_lines : (lines : List (List ℕ)) → Begins (flat_map shown_line lines)
begins_lines [] = inl refl
begins_lines (line ∷ lines) = begins_by (text_of_line line) (flat_map shown_line lines) (begins_lines lines)

digit_printable : (b : ℕ) → 48 ≤ b → b ≤ 57 → is_printable b ≡ true
digit_printable b low high = grind (arith, nat_tests)

-- three digits, and the number that they write
pub record Digits (x y z : ℕ) : Type 0 where
  pub first : (50 ≤ x) × (x ≤ 53)
  pub second : (48 ≤ y) × (y ≤ 57)
  pub third : (48 ≤ z) × (z ≤ 57)

digits_again : (x y z : ℕ) → Digits x y z → digits_of ((x - 48) * 100 + (y - 48) * 10 + (z - 48)) ≡ x ∷ (y ∷ (z ∷ []))
digits_again x y z d =
    let n = (x - 48) * 100 + (y - 48) * 10 + (z - 48) in
    let first : 48 + n / 100 ≡ x = omega (arith, d.first.0, d.first.1, d.second.0, d.second.1, d.third.0, d.third.1) in
    let second : 48 + n / 10 % 10 ≡ y = omega (arith, d.first.0, d.first.1, d.second.0, d.second.1, d.third.0, d.third.1) in
    let third : 48 + n % 10 ≡ z = omega (arith, d.first.0, d.first.1, d.second.0, d.second.1, d.third.0, d.third.1) in
    ap (λ (a : ℕ). a ∷ ((48 + n / 10 % 10) ∷ ((48 + n % 10) ∷ []))) first
    ∙ ap (λ (b : ℕ). x ∷ (b ∷ ((48 + n % 10) ∷ []))) second
    ∙ ap (λ (c : ℕ). x ∷ (y ∷ (c ∷ []))) third

digits_printable : (x y z : ℕ) → Digits x y z → list_all is_printable (x ∷ (y ∷ (z ∷ []))) ≡ true
digits_printable x y z d =
    and_is (is_printable x) (list_all is_printable (y ∷ (z ∷ []))) (digit_printable x (omega (arith, d.first.0)) (omega (arith, d.first.1)))
    (and_is (is_printable y) (list_all is_printable (z ∷ [])) (digit_printable y d.second.0 d.second.1)
    (and_is (is_printable z) true (digit_printable z d.third.0 d.third.1) refl))

begins_text : (x y z : ℕ) (code text : List ℕ) → code ≡ x ∷ (y ∷ (z ∷ [])) → Begins text
    → (take REPLY_TEXT_LIMIT (x ∷ (y ∷ (z ∷ text))) ≡ code) ⊎ ((more : List ℕ) × (take REPLY_TEXT_LIMIT (x ∷ (y ∷ (z ∷ text))) ≡ code ++ (32 ∷ more)) × (0 < length more))
begins_text x y z code text is (inl e) = inl (ap (λ (m : List ℕ). take REPLY_TEXT_LIMIT (x ∷ (y ∷ (z ∷ m)))) e ∙ sym is)
begins_text x y z code text is (inr e) =
    inr (
      e.0 ∷ take 507 e.1,
      ap (λ (m : List ℕ). take REPLY_TEXT_LIMIT (x ∷ (y ∷ (z ∷ m)))) e.2 ∙ ap (λ (c : List ℕ). c ++ (32 ∷ (e.0 ∷ take 507 e.1))) (sym is),
      omega arith,
    )

text_proper : (x y z : ℕ) (text : List ℕ) → Digits x y z → Begins text → list_all is_printable text ≡ true → IsReplyText ((x - 48) * 100 + (y - 48) * 10 + (z - 48)) (take REPLY_TEXT_LIMIT (x ∷ (y ∷ (z ∷ text))))
text_proper x y z text d begins printable = record {
  begins = begins_text x y z (digits_of ((x - 48) * 100 + (y - 48) * 10 + (z - 48))) text (digits_again x y z d) begins;
  printable = printable-take REPLY_TEXT_LIMIT (x ∷ (y ∷ (z ∷ text))) (printable-append (x ∷ (y ∷ (z ∷ []))) text (digits_printable x y z d) printable);
  within = omega (arith, length-take REPLY_TEXT_LIMIT (x ∷ (y ∷ (z ∷ text))));
}

line_text_proper : (x y z : ℕ) (more : List ℕ) → Digits x y z → IsReplyText ((x - 48) * 100 + (y - 48) * 10 + (z - 48)) (one_line_text (x ∷ (y ∷ (z ∷ more))))
unfolding one_line_text
line_text_proper x y z more d =
    let lines = lines_of (x ∷ (y ∷ (z ∷ more))) in
    text_proper x y z (flat_map shown_line lines) d (begins_lines lines) (printable_lines lines)

code_digits : (x y z : ℕ) → is_code_front (x ∷ (y ∷ (z ∷ []))) ≡ true → Digits x y z
code_digits x y z e =
    let three = and_both (is_first_digit x && is_digit y) (is_digit z) (and_both (is_first_digit x && is_digit y && is_digit z) true e).0 in
    let two = and_both (is_first_digit x) (is_digit y) three.0 in
    record { first = first_range x two.0; second = digit_range y two.1; third = digit_range z three.1 }

-- what holds of a reply that is not too long
pub reply_proper : (bytes : List ℕ) → is_reply bytes ≡ true → length bytes ≤ REPLY_LIMIT → IsProperReply bytes
reply_proper [] e short = absurd (true_not_false (sym e))
reply_proper (x ∷ []) e short = absurd (true_not_false (sym (and_both false (is_code_front (x ∷ [])) (reply_code (x ∷ []) e)).0))
reply_proper (x ∷ (y ∷ [])) e short = absurd (true_not_false (sym (and_both false (is_code_front (x ∷ (y ∷ []))) (reply_code (x ∷ (y ∷ [])) e)).0))
reply_proper (x ∷ (y ∷ (z ∷ []))) e short = absurd (short_reply (x ∷ (y ∷ (z ∷ []))) e (and_both true (is_code_front (x ∷ (y ∷ (z ∷ [])))) (reply_code (x ∷ (y ∷ (z ∷ []))) e)).1)
reply_proper (x ∷ (y ∷ (z ∷ (b ∷ more)))) e short =
    let d = code_digits x y z (and_both true (is_code_front (x ∷ (y ∷ (z ∷ [])))) (reply_code (x ∷ (y ∷ (z ∷ (b ∷ more)))) e)).1 in
    record {
      is_reply = e;
      long = omega arith;
      short = short;
      low = omega (arith, d.first.0, d.first.1, d.second.0, d.second.1, d.third.0, d.third.1);
      high = omega (arith, d.first.0, d.first.1, d.second.0, d.second.1, d.third.0, d.third.1);
      text = line_text_proper x y z (b ∷ more) d;
    }

pub whole_proper : (bytes : List ℕ) → (heard bytes).what ≡ Whole → IsProperReply (take (heard bytes).used bytes)
whole_proper bytes e = let taken = whole_taken bytes e in reply_proper (take (heard bytes).used bytes) taken.0 taken.1

-- a reader that answered that the reply is whole took it
pub reader_proper : (reader : ReplyReader) (bytes : List ℕ) → IsWhole reader → Reads reader bytes → IsProperReply bytes
reader_proper reader bytes whole reads =
    let e : (heard bytes).what ≡ Whole = sym reads.answered_is ∙ whole in
    subst IsProperReply (ap (λ (n : ℕ). take n bytes) reads.all_used ∙ take_all (length bytes) bytes (omega arith)) (whole_proper bytes e)

whole_tells : (reader : ReplyReader) (bytes : List ℕ) → IsWhole reader → Reads reader bytes → Tells reader.said bytes
whole_tells reader bytes whole reads = subst (λ (h : Heard). Keeps h reader bytes) whole reads.keeps

code_all : (n : ℕ) (code : List ℕ) → 4 ≤ n → length code ≡ 3 → take n code ≡ code
code_all n code l e = take_all n code (omega arith)

-- the code of a whole reply
pub whole_code : (reader : ReplyReader) (bytes : List ℕ) → IsWhole reader → Reads reader bytes → number_in (digits_in reader.said.code) ≡ code_of bytes
whole_code reader bytes whole reads =
    let tells = whole_tells reader bytes whole reads in
    let long : 4 ≤ length bytes = (reader_proper reader bytes whole reads).long in
    ap number_in (sym (code_all (length bytes) (digits_in reader.said.code) long refl) ∙ sym tells.code_is)
