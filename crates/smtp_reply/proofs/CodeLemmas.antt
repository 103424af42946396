-- What a byte makes of the front of a reply in the code of a line.
use Rattle.std.proofs.Common.{◌≡◌, ℕ, ◌<◌, ◌≤◌, ◌==◌, ◌&&◌, inl, List, [], ◌∷◌, ◌++◌, length, take, get_or, Bool, true, false, refl, ap, sym, subst, ◌∙◌, arith, eq-eqb}
use Rattle.std.proofs.lemmas.List.{length_push}
use Rattle.kumo_base.specs.declared.room.TheConstants.{REPLY_TEXT_LIMIT}
use Rattle.smtp_reply.specs.declared.place.Digit.{Digit}
use Rattle.smtp_reply.specs.declared.place.Digit.TheVariants.{First, Second, Third}
use Rattle.smtp_reply.specs.declared.place.Place.{Place}
use Rattle.smtp_reply.specs.declared.place.Place.TheVariants.{Code}
use Rattle.smtp_reply.specs.declared.place.Next.TheVariants.{Front, Bad}
use Rattle.smtp_reply.specs.declared.said.Code.{Code as Digits}
use Rattle.smtp_reply.specs.declared.said.Said.{Said}
use Rattle.smtp_reply.specs.Grammar.{is_reply, is_front, lines_of, code_in, is_line_feed, is_first_digit, is_digit, is_code_front, is_last_line, is_open_line, is_line_front, are_front_lines, are_reply_lines}
use Rattle.smtp_reply.specs.Reading.{line_begun, IsAt, Stands, Makes, digits_in, digit_at, with_digit, after_digit, may_stand}
use Rattle.smtp_reply.proofs.GrammarLemmas.{reply-byte}
use Rattle.smtp_reply.proofs.FrontLemmas.{and_both, same_byte, code_front_line, code_front_is_front, code_of_good, digit_no_feed, first_no_feed, is_feed}
use Rattle.smtp_reply.proofs.TextLemmas.{text-same, code_text}
use Rattle.smtp_reply.proofs.PlaceLemmas.{Here, here, with_code, begun_whole, bad_feed, bad_byte, good_byte}
use Rattle.smtp_reply.proofs.StepLemmas.{same_from}

-- the digit of a code, and the digits before it
abbrev digit_in : Digit → ℕ → ℕ → ℕ → ℕ
digit_in First x y z = x
digit_in Second x y z = y
digit_in Third x y z = z

abbrev pub before : Digit → ℕ → ℕ → ℕ → List ℕ
before First x y z = []
before Second x y z = x ∷ []
before Third x y z = x ∷ (y ∷ [])

pub before_is : (d : Digit) (x y z : ℕ) (line : List ℕ) → IsAt (Code d) line → is_line_front (x ∷ (y ∷ (z ∷ []))) line ≡ true → line ≡ before d x y z
before_is First x y z [] n e = refl
before_is First x y z (a ∷ line) n e = absurd (omega arith)
before_is Second x y z [] n e = absurd (omega arith)
before_is Second x y z (a ∷ []) n e =
    let first = and_both (a == x) true (and_both ((a == x) && true) true e).0 in
    ap (λ (m : ℕ). m ∷ []) (same_from a x first.0)
before_is Second x y z (a ∷ (b ∷ line)) n e = absurd (omega arith)
before_is Third x y z [] n e = absurd (omega arith)
before_is Third x y z (a ∷ []) n e = absurd (omega arith)
before_is Third x y z (a ∷ (b ∷ [])) n e =
    let first = and_both (a == x) ((b == y) && true) (and_both ((a == x) && ((b == y) && true)) true e).0 in
    let second = and_both (b == y) true first.1 in
    ap (λ (m : ℕ). m ∷ (b ∷ [])) (same_from a x first.0) ∙ ap (λ (m : ℕ). x ∷ (m ∷ [])) (same_from b y second.0)
before_is Third x y z (a ∷ (b ∷ (c ∷ line))) n e = absurd (omega arith)

front_with : (d : Digit) (x y z b : ℕ) (t : Bool) → (b == digit_in d x y z) ≡ t → is_line_front (x ∷ (y ∷ (z ∷ []))) (before d x y z ++ b ∷ []) ≡ t
front_with First x y z b t e = grind (arith, e)
front_with Second x y z b t e = grind (arith, e, same_byte x)
front_with Third x y z b t e = grind (arith, e, same_byte x, same_byte y)

not_last : (d : Digit) (x y z : ℕ) → is_last_line (x ∷ (y ∷ (z ∷ []))) (before d x y z) ≡ false
not_last First x y z = refl
not_last Second x y z = grind arith
not_last Third x y z = grind arith

not_open : (d : Digit) (x y z : ℕ) → is_open_line (x ∷ (y ∷ (z ∷ []))) (before d x y z) ≡ false
not_open First x y z = refl
not_open Second x y z = grind arith
not_open Third x y z = grind arith

at_next : (d : Digit) (x y z b : ℕ) → IsAt (after_digit d) (before d x y z ++ b ∷ [])
at_next First x y z b = refl
at_next Second x y z b = refl
at_next Third x y z b = refl

before_short : (d : Digit) (x y z : ℕ) → length (before d x y z) ≤ 3
before_short First x y z = omega arith
before_short Second x y z = omega arith
before_short Third x y z = omega arith

digit_same : (d : Digit) (x y z : ℕ) (code : Digits) → x ∷ (y ∷ (z ∷ [])) ≡ digits_in code → digit_at code d ≡ digit_in d x y z
digit_same First x y z code e = ap (λ (m : List ℕ). get_or m 0 0) (sym e)
digit_same Second x y z code e = ap (λ (m : List ℕ). get_or m 1 0) (sym e)
digit_same Third x y z code e = ap (λ (m : List ℕ). get_or m 2 0) (sym e)

no_feed : (d : Digit) (x y z : ℕ) → is_code_front (x ∷ (y ∷ (z ∷ []))) ≡ true → is_line_feed (digit_in d x y z) ≡ false
no_feed d x y z e = digits_no_feed d (and_both (is_first_digit x && is_digit y && is_digit z) true e).0
  where
    digits_no_feed : (d : Digit) → (is_first_digit x && is_digit y && is_digit z) ≡ true → is_line_feed (digit_in d x y z) ≡ false
    digits_no_feed First e = first_no_feed x (and_both (is_first_digit x) (is_digit y) (and_both (is_first_digit x && is_digit y) (is_digit z) e).0).0
    digits_no_feed Second e = digit_no_feed y (and_both (is_first_digit x) (is_digit y) (and_both (is_first_digit x && is_digit y) (is_digit z) e).0).1
    digits_no_feed Third e = digit_no_feed z (and_both (is_first_digit x && is_digit y) (is_digit z) e).1

here_digit : (d : Digit) (said : Said) (x y z : ℕ) (more : List ℕ) → Stands (Code d) said (x ∷ (y ∷ (z ∷ more))) → Here said x y z more (before d x y z)
here_digit d said x y z more stands =
    let h = here (Code d) said x y z more stands in
    subst (λ (line : List ℕ). Here said x y z more line) (before_is d x y z (line_begun (x ∷ (y ∷ (z ∷ more)))) stands.place_is h.front.begun) h

same_digit_next : (d : Digit) (said : Said) (bytes : List ℕ) (b : ℕ) → b ≡ digit_at said.code d → 3 ≤ length bytes → Stands (Code d) said bytes → Makes (Front (after_digit d)) said (bytes ++ b ∷ [])
same_digit_next d said bytes b is long stands =
    with_code (λ (bytes : List ℕ). Stands (Code d) said bytes → Makes (Front (after_digit d)) said (bytes ++ b ∷ []))
    (λ x y z more stands.
    let h = here_digit d said x y z more stands in
    let at : b ≡ digit_in d x y z = is ∙ digit_same d x y z said.code h.code in
    let other : is_line_feed b ≡ false = ap is_line_feed at ∙ no_feed d x y z h.front.code in
    good_byte said said (after_digit d) x y z more (before d x y z) b h other (front_with d x y z b true (eq-eqb b (digit_in d x y z) at)) (at_next d x y z b) refl
    (h.text ∙ sym (text-same x y z more b h.closed (before d x y z) other h.lines (before_short d x y z))))
    bytes long stands

-- the digit of the code
pub same_digit : (d : Digit) (place : Place) (said : Said) (bytes : List ℕ) (b : ℕ) → place ≡ after_digit d → b ≡ digit_at said.code d → 3 ≤ length bytes → Stands (Code d) said bytes → Makes (Front place) said (bytes ++ b ∷ [])
same_digit d place said bytes b next is long stands =
    subst (λ (p : Place). Makes (Front p) said (bytes ++ b ∷ [])) (sym next) (same_digit_next d said bytes b is long stands)

bad_digit : (d : Digit) (said : Said) (x y z : ℕ) (more : List ℕ) (b : ℕ) (t : Bool) → is_line_feed b ≡ t → (b == digit_in d x y z) ≡ false → Here said x y z more (before d x y z) → Makes Bad said (x ∷ (y ∷ (z ∷ (more ++ b ∷ []))))
bad_digit d said x y z more b true feed e h =
    subst (λ (c : ℕ). Makes Bad said (x ∷ (y ∷ (z ∷ (more ++ c ∷ []))))) (sym (is_feed b feed)) (bad_feed said x y z more (before d x y z) h (not_last d x y z) (not_open d x y z))
bad_digit d said x y z more b false other e h = bad_byte said x y z more (before d x y z) b h other (front_with d x y z b false e)

-- another byte
pub other_digit : (d : Digit) (said : Said) (bytes : List ℕ) (b : ℕ) → (b == digit_at said.code d) ≡ false → 3 ≤ length bytes → Stands (Code d) said bytes → Makes Bad said (bytes ++ b ∷ [])
other_digit d said bytes b e long stands =
    with_code (λ (bytes : List ℕ). Stands (Code d) said bytes → Makes Bad said (bytes ++ b ∷ []))
    (λ x y z more stands.
    let h = here_digit d said x y z more stands in
    bad_digit d said x y z more b (is_line_feed b) refl (ap (λ (n : ℕ). b == n) (sym (digit_same d x y z said.code h.code)) ∙ e) h)
    bytes long stands

-- fewer than three bytes of a front are the front of a code
short_front : (bytes : List ℕ) → length bytes < 3 → is_front bytes ≡ true → is_code_front bytes ≡ true
short_front [] short e = refl
short_front (a ∷ []) short e = code_of_good (a ∷ []) (inl e)
short_front (a ∷ (b ∷ [])) short e = code_of_good (a ∷ (b ∷ [])) (inl e)
short_front (a ∷ (b ∷ (c ∷ more))) short e = absurd (omega arith)

-- the bytes before a digit of the first line are as many as digits are before it
abbrev Before : Digit → List ℕ → Type 0
Before First bytes = bytes ≡ []
Before Second bytes = (a : ℕ) × (bytes ≡ a ∷ [])
Before Third bytes = (a : ℕ) × (b : ℕ) × (bytes ≡ a ∷ (b ∷ []))

bytes_before : (d : Digit) (bytes : List ℕ) → IsAt (Code d) bytes → Before d bytes
bytes_before First [] n = refl
bytes_before First (a ∷ more) n = absurd (omega arith)
bytes_before Second [] n = absurd (omega arith)
bytes_before Second (a ∷ []) n = (a, refl)
bytes_before Second (a ∷ (b ∷ more)) n = absurd (omega arith)
bytes_before Third [] n = absurd (omega arith)
bytes_before Third (a ∷ []) n = absurd (omega arith)
bytes_before Third (a ∷ (b ∷ [])) n = (a, b, refl)
bytes_before Third (a ∷ (b ∷ (c ∷ more))) n = absurd (omega arith)

code_with : (d : Digit) (bytes : List ℕ) (b : ℕ) → Before d bytes → is_code_front bytes ≡ true → is_code_front (bytes ++ b ∷ []) ≡ may_stand d b
code_with First bytes b is e = ap (λ (m : List ℕ). is_code_front (m ++ b ∷ [])) is
code_with Second bytes b is e =
    let first : is_first_digit is.0 ≡ true = ap is_code_front (sym is.1) ∙ e in
    ap (λ (m : List ℕ). is_code_front (m ++ b ∷ [])) is.1 ∙ ap (λ (t : Bool). t && is_digit b) first
code_with Third bytes b is e =
    let both : (is_first_digit is.0 && is_digit is.1) ≡ true = ap is_code_front (sym is.2) ∙ e in
    ap (λ (m : List ℕ). is_code_front (m ++ b ∷ [])) is.2 ∙ ap (λ (t : Bool). (t && is_digit b) && true) both ∙ and_true (is_digit b)
  where
    and_true : (p : Bool) → ((true && p) && true) ≡ p
    and_true p = grind arith

stand_no_feed : (d : Digit) (b : ℕ) → may_stand d b ≡ true → is_line_feed b ≡ false
stand_no_feed First b e = first_no_feed b e
stand_no_feed Second b e = digit_no_feed b e
stand_no_feed Third b e = digit_no_feed b e

next_is : (d : Digit) (bytes : List ℕ) (b : ℕ) → Before d bytes → IsAt (after_digit d) (bytes ++ b ∷ [])
next_is First bytes b is = ap (λ (m : List ℕ). length (m ++ b ∷ [])) is
next_is Second bytes b is = ap (λ (m : List ℕ). length (m ++ b ∷ [])) is.1
next_is Third bytes b is = ap (λ (m : List ℕ). length (m ++ b ∷ [])) is.2

code_grows : (d : Digit) (code after : Digits) (bytes : List ℕ) (b : ℕ) → Before d bytes → after ≡ with_digit code d b → code_in bytes ≡ take (length bytes) (digits_in code)
    → code_in (bytes ++ b ∷ []) ≡ take (length (bytes ++ b ∷ [])) (digits_in after)
code_grows First code after bytes b is set e = subst (λ (m : List ℕ). code_in (m ++ b ∷ []) ≡ take (length (m ++ b ∷ [])) (digits_in after)) (sym is) (ap (λ (c : Digits). c.first ∷ []) (sym set))
code_grows Second code after bytes b is set e =
    let old : is.0 ∷ [] ≡ code.first ∷ [] = subst (λ (m : List ℕ). code_in m ≡ take (length m) (digits_in code)) is.1 e in
    subst (λ (m : List ℕ). code_in (m ++ b ∷ []) ≡ take (length (m ++ b ∷ [])) (digits_in after)) (sym is.1)
    (ap (λ (m : List ℕ). m ++ b ∷ []) old ∙ ap (λ (c : Digits). c.first ∷ (c.second ∷ [])) (sym set))
code_grows Third code after bytes b is set e =
    let old : is.0 ∷ (is.1 ∷ []) ≡ code.first ∷ (code.second ∷ []) = subst (λ (m : List ℕ). code_in m ≡ take (length m) (digits_in code)) is.2 e in
    subst (λ (m : List ℕ). code_in (m ++ b ∷ []) ≡ take (length (m ++ b ∷ [])) (digits_in after)) (sym is.2)
    (ap (λ (m : List ℕ). m ++ b ∷ []) old ∙ ap (λ (c : Digits). c.first ∷ (c.second ∷ (c.third ∷ []))) (sym set))

fits : (d : Digit) (bytes : List ℕ) (b : ℕ) → Before d bytes → take REPLY_TEXT_LIMIT (bytes ++ b ∷ []) ≡ bytes ++ b ∷ []
fits First bytes b is = subst (λ (m : List ℕ). take REPLY_TEXT_LIMIT (m ++ b ∷ []) ≡ m ++ b ∷ []) (sym is) refl
fits Second bytes b is = subst (λ (m : List ℕ). take REPLY_TEXT_LIMIT (m ++ b ∷ []) ≡ m ++ b ∷ []) (sym is.1) refl
fits Third bytes b is = subst (λ (m : List ℕ). take REPLY_TEXT_LIMIT (m ++ b ∷ []) ≡ m ++ b ∷ []) (sym is.2) refl

before_of : (d : Digit) (said : Said) (bytes : List ℕ) → length bytes < 3 → Stands (Code d) said bytes → Before d bytes
before_of d said bytes short stands =
    bytes_before d bytes (subst (IsAt (Code d)) (begun_whole bytes (short_front bytes short stands.front)) stands.place_is)

short_more : (bytes : List ℕ) (b : ℕ) → length bytes < 3 → length (bytes ++ b ∷ []) ≤ 3
short_more bytes b short = omega (arith, length_push bytes b)

first_digit_next : (d : Digit) (said after : Said) (bytes : List ℕ) (b : ℕ) → may_stand d b ≡ true → after.code ≡ with_digit said.code d b → after.text ≡ take REPLY_TEXT_LIMIT (said.text ++ b ∷ [])
    → length bytes < 3 → Stands (Code d) said bytes → Makes (Front (after_digit d)) after (bytes ++ b ∷ [])
first_digit_next d said after bytes b may code text short stands =
    let is = before_of d said bytes short stands in
    let front = short_front bytes short stands.front in
    let longer : is_code_front (bytes ++ b ∷ []) ≡ true = code_with d bytes b is front ∙ may in
    let other = stand_no_feed d b may in
    let whole = code_front_line (bytes ++ b ∷ []) longer in (
      reply-byte bytes b [] bytes other (code_front_line bytes front),
      record {
        front = code_front_is_front (bytes ++ b ∷ []) longer;
        place_is = subst (IsAt (after_digit d)) (sym (begun_whole (bytes ++ b ∷ []) longer)) (next_is d bytes b is);
        tells = record {
          code_is = code_grows d said.code after.code bytes b is code stands.tells.code_is;
          text_is = text ∙ ap (λ (m : List ℕ). take REPLY_TEXT_LIMIT (m ++ b ∷ [])) (stands.tells.text_is ∙ code_text bytes (code_front_line bytes front) (omega arith)) ∙ fits d bytes b is
              ∙ sym (code_text (bytes ++ b ∷ []) whole (short_more bytes b short));
        };
      },
    )

-- a digit of the first line
pub first_digit : (d : Digit) (place : Place) (said after : Said) (bytes : List ℕ) (b : ℕ) → place ≡ after_digit d → may_stand d b ≡ true → after.code ≡ with_digit said.code d b → after.text ≡ take REPLY_TEXT_LIMIT (said.text ++ b ∷ [])
    → length bytes < 3 → Stands (Code d) said bytes → Makes (Front place) after (bytes ++ b ∷ [])
first_digit d place said after bytes b next may code text short stands =
    subst (λ (p : Place). Makes (Front p) after (bytes ++ b ∷ [])) (sym next) (first_digit_next d said after bytes b may code text short stands)

bad_code : (bytes : List ℕ) → is_code_front (code_in bytes) ≡ false → (is_reply bytes ≡ false) × (is_front bytes ≡ false)
bad_code bytes e = (
  none (length (code_in bytes) == 3) (is_code_front (code_in bytes)) (are_reply_lines (code_in bytes) (lines_of bytes)) e,
  ap (λ (t : Bool). t && are_front_lines (code_in bytes) (lines_of bytes)) e,
)
  where
    none : (p q r : Bool) → q ≡ false → ((p && q) && r) ≡ false
    none p q r e = grind (arith, e)

code_in_short : (d : Digit) (bytes : List ℕ) (b : ℕ) → Before d bytes → code_in (bytes ++ b ∷ []) ≡ bytes ++ b ∷ []
code_in_short First bytes b is = subst (λ (m : List ℕ). code_in (m ++ b ∷ []) ≡ m ++ b ∷ []) (sym is) refl
code_in_short Second bytes b is = subst (λ (m : List ℕ). code_in (m ++ b ∷ []) ≡ m ++ b ∷ []) (sym is.1) refl
code_in_short Third bytes b is = subst (λ (m : List ℕ). code_in (m ++ b ∷ []) ≡ m ++ b ∷ []) (sym is.2) refl

-- no digit
pub no_digit : (d : Digit) (said : Said) (bytes : List ℕ) (b : ℕ) → may_stand d b ≡ false → length bytes < 3 → Stands (Code d) said bytes → Makes Bad said (bytes ++ b ∷ [])
no_digit d said bytes b may_not short stands =
    let is = before_of d said bytes short stands in
    bad_code (bytes ++ b ∷ []) (ap is_code_front (code_in_short d bytes b is) ∙ code_with d bytes b is (short_front bytes short stands.front) ∙ may_not)
