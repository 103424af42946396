-- What a byte makes of the front of a reply, at each place.
use Rattle.std.proofs.Common.{◌≡◌, ℕ, ◌≤◌, ◌==◌, ◌&&◌, ◌||◌, List, [], ◌∷◌, ◌++◌, length, take, drop, Bool, true, false, refl, ap, sym, subst, ◌∙◌, arith}
use Rattle.std.proofs.lemmas.Bool.Decides.{nat_tests}
use Rattle.std.specs.Prelude.{bytes_eq}
use Rattle.kumo_base.specs.declared.room.TheConstants.{REPLY_TEXT_LIMIT}
use Rattle.smtp_reply.specs.declared.place.Digit.TheVariants.{First}
use Rattle.smtp_reply.specs.declared.place.LineText.{LineText}
use Rattle.smtp_reply.specs.declared.place.Place.{Place}
use Rattle.smtp_reply.specs.declared.place.Place.TheVariants.{Code, AfterCode, AfterReturn, Text}
use Rattle.smtp_reply.specs.declared.place.Next.TheVariants.{Whole, Front, Bad}
use Rattle.smtp_reply.specs.declared.said.Said.{Said}
use Rattle.smtp_reply.specs.Grammar.{is_line_feed, is_end, is_going_on, is_tail_front, is_line_front}
use Rattle.smtp_reply.specs.Replies.{text_of_line, shown_more, has_bytes, waiting, bytes_added, one_line_text}
use Rattle.smtp_reply.specs.Reading.{line_begun, mark, IsAt, Stands, Makes}
use Rattle.smtp_reply.proofs.FrontLemmas.{and_both, and_is, same_byte}
use Rattle.smtp_reply.proofs.TextLemmas.{text_more, waits_more, shown_line_more, has_bytes-append, text-byte, text-same}
use Rattle.smtp_reply.proofs.PlaceLemmas.{Here, here, with_code, begun_long, whole_feed, next_line, bad_byte, good_byte}

pub code_same : (x y z : ℕ) → bytes_eq (x ∷ (y ∷ (z ∷ []))) (x ∷ (y ∷ (z ∷ []))) ≡ true
code_same x y z = grind (arith, same_byte x, same_byte y, same_byte z)

pub same_from : (a b : ℕ) → (a == b) ≡ true → a ≡ b
same_from a b e = grind (arith, nat_tests)

pub three_same : (a b c x y z : ℕ) (rest : List ℕ) (t : Bool) → (((a == x) && ((b == y) && ((c == z) && true))) && t) ≡ true → a ∷ (b ∷ (c ∷ rest)) ≡ x ∷ (y ∷ (z ∷ rest))
three_same a b c x y z rest t e =
    let all = and_both ((a == x) && ((b == y) && ((c == z) && true))) t e in
    let first = and_both (a == x) ((b == y) && ((c == z) && true)) all.0 in
    let second = and_both (b == y) ((c == z) && true) first.1 in
    let third = and_both (c == z) true second.1 in
    ap (λ (n : ℕ). n ∷ (b ∷ (c ∷ rest))) (same_from a x first.0)
    ∙ ap (λ (n : ℕ). x ∷ (n ∷ (c ∷ rest))) (same_from b y second.0)
    ∙ ap (λ (n : ℕ). x ∷ (y ∷ (n ∷ rest))) (same_from c z third.0)

-- a line of three bytes is the code
pub line_is_code : (x y z : ℕ) (line : List ℕ) → length line ≡ 3 → is_line_front (x ∷ (y ∷ (z ∷ []))) line ≡ true → line ≡ x ∷ (y ∷ (z ∷ []))
line_is_code x y z [] n e = absurd (omega arith)
line_is_code x y z (a ∷ []) n e = absurd (omega arith)
line_is_code x y z (a ∷ (b ∷ [])) n e = absurd (omega arith)
line_is_code x y z (a ∷ (b ∷ (c ∷ []))) n e = three_same a b c x y z [] true e
line_is_code x y z (a ∷ (b ∷ (c ∷ (d ∷ more)))) n e = absurd (omega arith)

here_code : (said : Said) (x y z : ℕ) (more : List ℕ) → Stands AfterCode said (x ∷ (y ∷ (z ∷ more))) → Here said x y z more (x ∷ (y ∷ (z ∷ [])))
here_code said x y z more stands =
    let h = here AfterCode said x y z more stands in
    subst (λ (line : List ℕ). Here said x y z more line) (line_is_code x y z (line_begun (x ∷ (y ∷ (z ∷ more)))) stands.place_is h.front.begun) h

code_long : (said : Said) (bytes : List ℕ) → Stands AfterCode said bytes → 3 ≤ length bytes
code_long said bytes stands = let n : length (line_begun bytes) ≡ 3 = stands.place_is in begun_long bytes stands.front (omega arith)

-- behind a code: a line feed
pub code_feed : (said : Said) (bytes : List ℕ) (b : ℕ) → b ≡ 10 → Stands AfterCode said bytes → Makes Whole said (bytes ++ b ∷ [])
code_feed said bytes b is stands =
    subst (λ (c : ℕ). Makes Whole said (bytes ++ c ∷ [])) (sym is)
    (with_code (λ (bytes : List ℕ). Stands AfterCode said bytes → Makes Whole said (bytes ++ 10 ∷ []))
    (λ x y z more stands. whole_feed said x y z more (x ∷ (y ∷ (z ∷ []))) (here_code said x y z more stands) (and_is (bytes_eq (x ∷ (y ∷ (z ∷ []))) (x ∷ (y ∷ (z ∷ [])))) true (code_same x y z) refl))
    bytes (code_long said bytes stands) stands)

-- behind a code: a carriage return, a blank or `-`
pub code_byte : (said : Said) (place : Place) (bytes : List ℕ) (b c : ℕ) → b ≡ c → is_line_feed c ≡ false → is_tail_front (c ∷ []) ≡ true → ((x y z : ℕ) → IsAt place (x ∷ (y ∷ (z ∷ (c ∷ [])))))
    → Stands AfterCode said bytes → Makes (Front place) said (bytes ++ b ∷ [])
code_byte said place bytes b c is other tail at stands =
    subst (λ (c : ℕ). Makes (Front place) said (bytes ++ c ∷ [])) (sym is)
    (with_code (λ (bytes : List ℕ). Stands AfterCode said bytes → Makes (Front place) said (bytes ++ c ∷ []))
    (λ x y z more stands.
    let h = here_code said x y z more stands in
    good_byte said said place x y z more (x ∷ (y ∷ (z ∷ []))) c h other
    (and_is (bytes_eq (x ∷ (y ∷ (z ∷ []))) (x ∷ (y ∷ (z ∷ [])))) (is_tail_front (c ∷ [])) (code_same x y z) tail) (at x y z) refl
    (h.text ∙ sym (text-same x y z more c h.closed (x ∷ (y ∷ (z ∷ []))) other h.lines (omega arith))))
    bytes (code_long said bytes stands) stands)

at_text : (goes_on : Bool) (x y z : ℕ) → IsAt (Text (record { goes_on = goes_on; began = false; waits = false })) (x ∷ (y ∷ (z ∷ (mark goes_on ∷ []))))
at_text true x y z = (refl, refl, refl)
at_text false x y z = (refl, refl, refl)

tail_bad : (p t : Bool) → t ≡ false → (p && t) ≡ false
tail_bad p t e = grind (arith, e)

-- behind a code: another byte
pub code_bad : (said : Said) (bytes : List ℕ) (b : ℕ) → is_line_feed b ≡ false → is_tail_front (b ∷ []) ≡ false → Stands AfterCode said bytes → Makes Bad said (bytes ++ b ∷ [])
code_bad said bytes b other tail stands =
    with_code (λ (bytes : List ℕ). Stands AfterCode said bytes → Makes Bad said (bytes ++ b ∷ []))
    (λ x y z more stands. bad_byte said x y z more (x ∷ (y ∷ (z ∷ []))) b (here_code said x y z more stands) other (tail_bad (bytes_eq (x ∷ (y ∷ (z ∷ []))) (x ∷ (y ∷ (z ∷ [])))) (is_tail_front (b ∷ [])) tail))
    bytes (code_long said bytes stands) stands

return_line : (x y z : ℕ) (line : List ℕ) → drop 3 line ≡ 13 ∷ [] → is_line_front (x ∷ (y ∷ (z ∷ []))) line ≡ true → line ≡ x ∷ (y ∷ (z ∷ (13 ∷ [])))
return_line x y z [] n e = absurd cc
return_line x y z (a ∷ []) n e = absurd cc
return_line x y z (a ∷ (b ∷ [])) n e = absurd cc
return_line x y z (a ∷ (b ∷ (c ∷ []))) n e = absurd cc
return_line x y z (a ∷ (b ∷ (c ∷ (d ∷ rest)))) n e =
    three_same a b c x y z (d ∷ rest) (is_tail_front (d ∷ rest)) e ∙ ap (λ (m : List ℕ). x ∷ (y ∷ (z ∷ m))) n

here_return : (said : Said) (x y z : ℕ) (more : List ℕ) → Stands AfterReturn said (x ∷ (y ∷ (z ∷ more))) → Here said x y z more (x ∷ (y ∷ (z ∷ (13 ∷ []))))
here_return said x y z more stands =
    let h = here AfterReturn said x y z more stands in
    subst (λ (line : List ℕ). Here said x y z more line) (return_line x y z (line_begun (x ∷ (y ∷ (z ∷ more)))) stands.place_is h.front.begun) h

long_line : (line : List ℕ) (b : ℕ) (rest : List ℕ) → drop 3 line ≡ b ∷ rest → 4 ≤ length line
long_line [] b rest e = absurd cc
long_line (a ∷ []) b rest e = absurd cc
long_line (a ∷ (c ∷ [])) b rest e = absurd cc
long_line (a ∷ (c ∷ (d ∷ []))) b rest e = absurd cc
long_line (a ∷ (c ∷ (d ∷ (f ∷ more)))) b rest e = omega arith

return_long : (said : Said) (bytes : List ℕ) → Stands AfterReturn said bytes → 3 ≤ length bytes
return_long said bytes stands = let n : 4 ≤ length (line_begun bytes) = long_line (line_begun bytes) 13 [] stands.place_is in begun_long bytes stands.front (omega arith)

-- behind a code and a carriage return: a line feed
pub return_feed : (said : Said) (bytes : List ℕ) (b : ℕ) → b ≡ 10 → Stands AfterReturn said bytes → Makes Whole said (bytes ++ b ∷ [])
return_feed said bytes b is stands =
    subst (λ (c : ℕ). Makes Whole said (bytes ++ c ∷ [])) (sym is)
    (with_code (λ (bytes : List ℕ). Stands AfterReturn said bytes → Makes Whole said (bytes ++ 10 ∷ []))
    (λ x y z more stands. whole_feed said x y z more (x ∷ (y ∷ (z ∷ (13 ∷ [])))) (here_return said x y z more stands) (and_is (bytes_eq (x ∷ (y ∷ (z ∷ []))) (x ∷ (y ∷ (z ∷ [])))) true (code_same x y z) refl))
    bytes (return_long said bytes stands) stands)

-- behind a code and a carriage return: another byte
pub return_bad : (said : Said) (bytes : List ℕ) (b : ℕ) → is_line_feed b ≡ false → Stands AfterReturn said bytes → Makes Bad said (bytes ++ b ∷ [])
return_bad said bytes b other stands =
    with_code (λ (bytes : List ℕ). Stands AfterReturn said bytes → Makes Bad said (bytes ++ b ∷ []))
    (λ x y z more stands. bad_byte said x y z more (x ∷ (y ∷ (z ∷ (13 ∷ [])))) b (here_return said x y z more stands) other (tail_bad (bytes_eq (x ∷ (y ∷ (z ∷ []))) (x ∷ (y ∷ (z ∷ [])))) false refl))
    bytes (return_long said bytes stands) stands

-- a line with a text: its code, its mark and the text
text_line : (x y z : ℕ) (goes_on : Bool) (line : List ℕ) → drop 3 line ≡ mark goes_on ∷ drop 4 line → is_line_front (x ∷ (y ∷ (z ∷ []))) line ≡ true → line ≡ x ∷ (y ∷ (z ∷ (mark goes_on ∷ drop 4 line)))
text_line x y z goes_on [] n e = absurd cc
text_line x y z goes_on (a ∷ []) n e = absurd cc
text_line x y z goes_on (a ∷ (b ∷ [])) n e = absurd cc
text_line x y z goes_on (a ∷ (b ∷ (c ∷ []))) n e = absurd cc
text_line x y z goes_on (a ∷ (b ∷ (c ∷ (d ∷ rest)))) n e =
    three_same a b c x y z (d ∷ rest) (is_tail_front (d ∷ rest)) e ∙ ap (λ (m : List ℕ). x ∷ (y ∷ (z ∷ m))) n

text_long : (said : Said) (line : LineText) (bytes : List ℕ) → Stands (Text line) said bytes → 3 ≤ length bytes
text_long said line bytes stands =
    let n : 4 ≤ length (line_begun bytes) = long_line (line_begun bytes) (mark line.goes_on) (drop 4 (line_begun bytes)) stands.place_is.0 in
    begun_long bytes stands.front (omega arith)

here_text : (said : Said) (line : LineText) (x y z : ℕ) (more : List ℕ) → Stands (Text line) said (x ∷ (y ∷ (z ∷ more)))
    → (text : List ℕ) × (Here said x y z more (x ∷ (y ∷ (z ∷ (mark line.goes_on ∷ text))))) × (IsAt (Text line) (x ∷ (y ∷ (z ∷ (mark line.goes_on ∷ text)))))
here_text said line x y z more stands =
    let begun = line_begun (x ∷ (y ∷ (z ∷ more))) in
    let h = here (Text line) said x y z more stands in
    let is : begun ≡ x ∷ (y ∷ (z ∷ (mark line.goes_on ∷ drop 4 begun))) = text_line x y z line.goes_on begun stands.place_is.0 h.front.begun in
    (drop 4 begun, subst (λ (l : List ℕ). Here said x y z more l) is h, subst (IsAt (Text line)) is stands.place_is)

-- in a text: a line feed where the line is the last
pub text_ends : (said : Said) (line : LineText) (bytes : List ℕ) (b : ℕ) → b ≡ 10 → line.goes_on ≡ false → Stands (Text line) said bytes → Makes Whole said (bytes ++ b ∷ [])
text_ends said line bytes b is last stands =
    subst (λ (c : ℕ). Makes Whole said (bytes ++ c ∷ [])) (sym is)
    (with_code (λ (bytes : List ℕ). Stands (Text line) said bytes → Makes Whole said (bytes ++ 10 ∷ []))
    (λ x y z more stands.
    let h = here_text said line x y z more stands in
    whole_feed said x y z more (x ∷ (y ∷ (z ∷ (mark line.goes_on ∷ h.0)))) h.1
    (and_is (bytes_eq (x ∷ (y ∷ (z ∷ []))) (x ∷ (y ∷ (z ∷ [])))) (is_end (mark line.goes_on ∷ h.0)) (code_same x y z) (ap (λ (t : Bool). is_end (mark t ∷ h.0)) last)))
    bytes (text_long said line bytes stands) stands)

-- in a text: a line feed where the line goes on
pub text_goes_on : (said : Said) (line : LineText) (bytes : List ℕ) (b : ℕ) → b ≡ 10 → line.goes_on ≡ true → Stands (Text line) said bytes → Makes (Front (Code First)) said (bytes ++ b ∷ [])
text_goes_on said line bytes b is goes_on stands =
    subst (λ (c : ℕ). Makes (Front (Code First)) said (bytes ++ c ∷ [])) (sym is)
    (with_code (λ (bytes : List ℕ). Stands (Text line) said bytes → Makes (Front (Code First)) said (bytes ++ 10 ∷ []))
    (λ x y z more stands.
    let h = here_text said line x y z more stands in
    next_line said x y z more (x ∷ (y ∷ (z ∷ (mark line.goes_on ∷ h.0)))) h.1
    (and_is (bytes_eq (x ∷ (y ∷ (z ∷ []))) (x ∷ (y ∷ (z ∷ [])))) (is_going_on (mark line.goes_on ∷ h.0)) (code_same x y z) (ap (λ (t : Bool). is_going_on (mark t ∷ h.0)) goes_on)))
    bytes (text_long said line bytes stands) stands)

mark_front : (goes_on : Bool) (text : List ℕ) → is_tail_front (mark goes_on ∷ text) ≡ true
mark_front true text = refl
mark_front false text = refl

-- in a text: another byte
pub text_byte : (said after : Said) (line next : LineText) (bytes : List ℕ) (b : ℕ) → is_line_feed b ≡ false
    → after.code ≡ said.code → after.text ≡ take REPLY_TEXT_LIMIT (said.text ++ shown_more line.began (bytes_added line.waits b))
    → next.goes_on ≡ line.goes_on → next.began ≡ (line.began || has_bytes (bytes_added line.waits b)) → next.waits ≡ (b == 13)
    → Stands (Text line) said bytes → Makes (Front (Text next)) after (bytes ++ b ∷ [])
text_byte said after line next bytes b other code text goes_on began waits stands =
    with_code (λ (bytes : List ℕ). Stands (Text line) said bytes → Makes (Front (Text next)) after (bytes ++ b ∷ []))
    (λ x y z more stands.
    let h = here_text said line x y z more stands in
    let old = x ∷ (y ∷ (z ∷ (mark line.goes_on ∷ h.0))) in
    let long : 4 ≤ length old = omega arith in
    good_byte said after (Text next) x y z more old b h.1 other
    (and_is (bytes_eq (x ∷ (y ∷ (z ∷ []))) (x ∷ (y ∷ (z ∷ [])))) (is_tail_front (mark line.goes_on ∷ (h.0 ++ b ∷ []))) (code_same x y z) (mark_front line.goes_on (h.0 ++ b ∷ []))) (
      ap (λ (t : Bool). mark t ∷ (h.0 ++ b ∷ [])) (sym goes_on),
      waits_more old b long ∙ ap (λ (t : Bool). text_of_line (old ++ b ∷ []) ++ waiting t) (sym waits),
      began ∙ ap (λ (t : Bool). t || has_bytes (bytes_added line.waits b)) h.2.2 ∙ sym (has_bytes-append (text_of_line old) (bytes_added line.waits b)) ∙ ap has_bytes (sym (text_more old line.waits b long h.2.1)),
    )
    code
    (text ∙ ap (λ (m : List ℕ). take REPLY_TEXT_LIMIT (m ++ shown_more line.began (bytes_added line.waits b))) h.1.text
    ∙ ap (λ (t : Bool). take REPLY_TEXT_LIMIT (one_line_text (x ∷ (y ∷ (z ∷ more))) ++ shown_more t (bytes_added line.waits b))) h.2.2
    ∙ sym (text-byte x y z more b h.1.closed old (shown_more (has_bytes (text_of_line old)) (bytes_added line.waits b)) other h.1.lines (shown_line_more old line.waits b long h.2.1))))
    bytes (text_long said line bytes stands) stands

mark_other : (goes_on : Bool) → is_line_feed (mark goes_on) ≡ false
mark_other true = refl
mark_other false = refl

-- behind a code: the byte before a text
pub code_mark : (said : Said) (line : LineText) (goes_on : Bool) (bytes : List ℕ) (b : ℕ) → b ≡ mark goes_on → line ≡ record { goes_on = goes_on; began = false; waits = false }
    → Stands AfterCode said bytes → Makes (Front (Text line)) said (bytes ++ b ∷ [])
code_mark said line goes_on bytes b is at stands =
    subst (λ (l : LineText). Makes (Front (Text l)) said (bytes ++ b ∷ [])) (sym at)
    (code_byte said (Text (record { goes_on = goes_on; began = false; waits = false })) bytes b (mark goes_on) is (mark_other goes_on) (mark_front goes_on []) (at_text goes_on) stands)
