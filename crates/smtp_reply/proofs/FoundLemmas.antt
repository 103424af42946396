-- A reply is heard, and each front becomes one.
use Rattle.std.proofs.Common.{◌≡◌, ℕ, ◌+◌, ◌≤◌, ◌==◌, ◌&&◌, inl, List, [], ◌∷◌, ◌++◌, length, Bool, true, false, nat_lt, refl, ap, sym, subst, ◌∙◌, arith}
use Rattle.std.proofs.lemmas.Bool.Decides.{nat_tests}
use Rattle.std.proofs.lemmas.List.{length_push, length-append, append_assoc, append-nil}
use Rattle.std.specs.Prelude.{bytes_eq}
use Rattle.smtp_reply.specs.declared.reader.Fed.{Fed}
use Rattle.smtp_reply.specs.declared.reader.Heard.TheVariants.{Whole}
use Rattle.smtp_reply.specs.declared.reader.TheConstants.{REPLY_LIMIT}
use Rattle.smtp_reply.specs.Grammar.{is_reply, is_front, lines_of, is_line_feed, is_first_digit, is_digit, is_code, is_code_front, is_end, is_tail_front, is_last_line, is_open_line, is_line_front}
use Rattle.smtp_reply.specs.Replies.{heard, heard_from, fed}
use Rattle.smtp_reply.proofs.LineLemmas.{cut, lines-feed, lines-byte}
use Rattle.smtp_reply.proofs.GrammarLemmas.{all_open, all_open-append, closed_again, reply-feed}
use Rattle.smtp_reply.proofs.FrontLemmas.{and_both, and_is, code_front_is_front, code_of_good, reply_is_no_front, fronts_go_on, true_not_false, long_front, digit_no_feed, first_no_feed}
use Rattle.smtp_reply.proofs.HeardLemmas.{answer_by}
use Rattle.smtp_reply.proofs.StepLemmas.{code_same, line_is_code, three_same}
use Rattle.smtp_reply.proofs.CodeLemmas.{before_is}
use Rattle.smtp_reply.specs.declared.place.Digit.TheVariants.{Second, Third}

reply_not_front : (bytes : List ℕ) → is_reply bytes ≡ true → is_front bytes ≡ true → ⊥
reply_not_front bytes e f = true_not_false (sym f ∙ reply_is_no_front bytes e)

reply_at : (reply front short : Bool) (n : ℕ) (rest : Fed) → reply ≡ true → answer_by reply front short n rest ≡ fed (n + 1) Whole
reply_at true front short n rest e = refl
reply_at false front short n rest e = absurd cc

front_at : (reply front short : Bool) (n : ℕ) (rest : Fed) → reply ≡ false → front ≡ true → short ≡ true → answer_by reply front short n rest ≡ rest
front_at true front short n rest e f g = absurd cc
front_at false false short n rest e f g = absurd cc
front_at false true false n rest e f g = absurd cc
front_at false true true n rest e f g = refl

no_reply : (bytes : List ℕ) (t : Bool) → is_reply bytes ≡ t → is_front bytes ≡ true → is_reply bytes ≡ false
no_reply bytes true e f = absurd (reply_not_front bytes e f)
no_reply bytes false e f = e

found_from : (front rest more : List ℕ) → is_front front ≡ true → is_reply (front ++ rest) ≡ true → length (front ++ rest) ≤ REPLY_LIMIT → heard_from front (rest ++ more) ≡ fed (length (front ++ rest)) Whole
found_from front [] more f e short = absurd (reply_not_front front (ap is_reply (sym (append-nil front)) ∙ e) f)
found_from front (b ∷ []) more f e short =
    reply_at (is_reply (front ++ b ∷ [])) (is_front (front ++ b ∷ [])) (nat_lt (length front + 1) REPLY_LIMIT) (length front) (heard_from (front ++ b ∷ []) more) e
    ∙ ap (λ n. fed n Whole) (sym (length_push front b))
found_from front (b ∷ (c ∷ rest)) more f e short =
    let longer = front ++ b ∷ [] in
    let same : longer ++ c ∷ rest ≡ front ++ b ∷ (c ∷ rest) = append_assoc front (b ∷ []) (c ∷ rest) in
    let reply : is_reply (longer ++ c ∷ rest) ≡ true = ap is_reply same ∙ e in
    let goes_on : is_front longer ≡ true = fronts_go_on longer c rest reply in
    let fits : nat_lt (length front + 1) REPLY_LIMIT ≡ true = grind (arith, nat_tests, length-append front (b ∷ (c ∷ rest))) in
    front_at (is_reply longer) (is_front longer) (nat_lt (length front + 1) REPLY_LIMIT) (length front) (heard_from longer (c ∷ (rest ++ more))) (no_reply longer (is_reply longer) refl goes_on) goes_on fits
    ∙ found_from longer (c ∷ rest) more goes_on reply (subst (λ (m : List ℕ). length m ≤ REPLY_LIMIT) (sym same) short)
    ∙ ap (λ (m : List ℕ). fed (length m) Whole) same

-- a reply that is not too long is heard as whole
pub reply_is_heard : (bytes more : List ℕ) → is_reply bytes ≡ true → length bytes ≤ REPLY_LIMIT → heard (bytes ++ more) ≡ fed (length bytes) Whole
unfolding heard
reply_is_heard bytes more e short = found_from [] bytes more refl e short

-- more bytes that make a reply of these
abbrev Becomes : List ℕ → Type 0
Becomes bytes = (more : List ℕ) × (is_reply (bytes ++ more) ≡ true)

becomes_by : (bytes next : List ℕ) → Becomes (bytes ++ next) → Becomes bytes
becomes_by bytes next h = (next ++ h.0, ap is_reply (sym (append_assoc bytes next h.0)) ∙ h.1)

-- a line feed ends it
ends_with : (x y z : ℕ) (more : List ℕ) (closed : List (List ℕ)) (line : List ℕ) → lines_of (x ∷ (y ∷ (z ∷ more))) ≡ closed ++ line ∷ [] → is_code_front (x ∷ (y ∷ (z ∷ []))) ≡ true → all_open (x ∷ (y ∷ (z ∷ []))) closed ≡ true
    → is_last_line (x ∷ (y ∷ (z ∷ []))) line ≡ true → Becomes (x ∷ (y ∷ (z ∷ more)))
ends_with x y z more closed line lines code open_lines last =
    let digits = x ∷ (y ∷ (z ∷ [])) in (
      10 ∷ [],
      reply-feed (x ∷ (y ∷ (z ∷ more))) closed line digits lines refl
          ∙ and_is (is_code digits) (all_open digits closed && is_last_line digits line) (and_is true (is_code_front digits) refl code) (and_is (all_open digits closed) (is_last_line digits line) open_lines last),
    )

-- the digits of a code that are not line feeds
record NoFeeds (x y z : ℕ) : Type 0 where
  first : is_line_feed x ≡ false
  second : is_line_feed y ≡ false
  third : is_line_feed z ≡ false

no_feeds : (x y z : ℕ) → is_code_front (x ∷ (y ∷ (z ∷ []))) ≡ true → NoFeeds x y z
no_feeds x y z e =
    let three = and_both (is_first_digit x && is_digit y) (is_digit z) (and_both (is_first_digit x && is_digit y && is_digit z) true e).0 in
    let two = and_both (is_first_digit x) (is_digit y) three.0 in
    record { first = first_no_feed x two.0; second = digit_no_feed y two.1; third = digit_no_feed z three.1 }

-- bytes whose lines are closed lines that go on and one that was begun
record Begun (x y z : ℕ) (closed : List (List ℕ)) (line : List ℕ) (more : List ℕ) : Type 0 where
  lines : lines_of (x ∷ (y ∷ (z ∷ more))) ≡ closed ++ line ∷ []
  code : is_code_front (x ∷ (y ∷ (z ∷ []))) ≡ true
  open_lines : all_open (x ∷ (y ∷ (z ∷ []))) closed ≡ true

with_byte : (x y z : ℕ) (more : List ℕ) (b : ℕ) (closed : List (List ℕ)) (line : List ℕ) → is_line_feed b ≡ false → Begun x y z closed line more → Begun x y z closed (line ++ b ∷ []) (more ++ b ∷ [])
with_byte x y z more b closed line other h = record {
  lines = lines-byte (x ∷ (y ∷ (z ∷ more))) b closed line other h.lines;
  code = h.code;
  open_lines = h.open_lines;
}

-- a line of a code alone
from_code : (x y z : ℕ) (more : List ℕ) (closed : List (List ℕ)) → Begun x y z closed (x ∷ (y ∷ (z ∷ []))) more → Becomes (x ∷ (y ∷ (z ∷ more)))
from_code x y z more closed h = ends_with x y z more closed (x ∷ (y ∷ (z ∷ []))) h.lines h.code h.open_lines (and_is (bytes_eq (x ∷ (y ∷ (z ∷ []))) (x ∷ (y ∷ (z ∷ [])))) true (code_same x y z) refl)

from_second : (x y z : ℕ) (more : List ℕ) (closed : List (List ℕ)) → Begun x y z closed (x ∷ (y ∷ [])) more → Becomes (x ∷ (y ∷ (z ∷ more)))
from_second x y z more closed h =
    becomes_by (x ∷ (y ∷ (z ∷ more))) (z ∷ []) (from_code x y z (more ++ z ∷ []) closed (with_byte x y z more z closed (x ∷ (y ∷ [])) (no_feeds x y z h.code).third h))

from_first : (x y z : ℕ) (more : List ℕ) (closed : List (List ℕ)) → Begun x y z closed (x ∷ []) more → Becomes (x ∷ (y ∷ (z ∷ more)))
from_first x y z more closed h =
    becomes_by (x ∷ (y ∷ (z ∷ more))) (y ∷ []) (from_second x y z (more ++ y ∷ []) closed (with_byte x y z more y closed (x ∷ []) (no_feeds x y z h.code).second h))

from_nothing : (x y z : ℕ) (more : List ℕ) (closed : List (List ℕ)) → Begun x y z closed [] more → Becomes (x ∷ (y ∷ (z ∷ more)))
from_nothing x y z more closed h =
    becomes_by (x ∷ (y ∷ (z ∷ more))) (x ∷ []) (from_first x y z (more ++ x ∷ []) closed (with_byte x y z more x closed [] (no_feeds x y z h.code).first h))

-- a line that goes on
from_open : (x y z : ℕ) (more : List ℕ) (closed : List (List ℕ)) (line : List ℕ) → Begun x y z closed line more → is_open_line (x ∷ (y ∷ (z ∷ []))) line ≡ true → Becomes (x ∷ (y ∷ (z ∷ more)))
from_open x y z more closed line h goes_on =
    let code = x ∷ (y ∷ (z ∷ [])) in
    becomes_by (x ∷ (y ∷ (z ∷ more))) (10 ∷ [])
    (from_nothing x y z (more ++ 10 ∷ []) (closed ++ line ∷ [])
    (record {
      lines = lines-feed (x ∷ (y ∷ (z ∷ more))) closed line h.lines ∙ closed_again closed line;
      code = h.code;
      open_lines = all_open-append code closed line ∙ and_is (all_open code closed) (is_open_line code line) h.open_lines goes_on;
    }))

is_end_else : (d : ℕ) (rest : List ℕ) → is_tail_front (d ∷ rest) ≡ true → (d == 45) ≡ false → is_end (d ∷ rest) ≡ true
is_end_else d rest e f = grind (arith, e, f)

from_text : (x y z : ℕ) (more : List ℕ) (closed : List (List ℕ)) (d : ℕ) (rest : List ℕ) (t : Bool) → (d == 45) ≡ t → is_tail_front (d ∷ rest) ≡ true → Begun x y z closed (x ∷ (y ∷ (z ∷ (d ∷ rest)))) more → Becomes (x ∷ (y ∷ (z ∷ more)))
from_text x y z more closed d rest true f e h = from_open x y z more closed (x ∷ (y ∷ (z ∷ (d ∷ rest)))) h (and_is (bytes_eq (x ∷ (y ∷ (z ∷ []))) (x ∷ (y ∷ (z ∷ [])))) (d == 45) (code_same x y z) f)
from_text x y z more closed d rest false f e h =
    ends_with x y z more closed (x ∷ (y ∷ (z ∷ (d ∷ rest)))) h.lines h.code h.open_lines (and_is (bytes_eq (x ∷ (y ∷ (z ∷ []))) (x ∷ (y ∷ (z ∷ [])))) (is_end (d ∷ rest)) (code_same x y z) (is_end_else d rest e f))

from_line : (x y z : ℕ) (more : List ℕ) (closed : List (List ℕ)) (line : List ℕ) → is_line_front (x ∷ (y ∷ (z ∷ []))) line ≡ true → Begun x y z closed line more → Becomes (x ∷ (y ∷ (z ∷ more)))
from_line x y z more closed [] e h = from_nothing x y z more closed h
from_line x y z more closed (a ∷ []) e h =
    from_first x y z more closed (subst (λ (l : List ℕ). Begun x y z closed l more) (before_is Second x y z (a ∷ []) refl e) h)
from_line x y z more closed (a ∷ (b ∷ [])) e h =
    from_second x y z more closed (subst (λ (l : List ℕ). Begun x y z closed l more) (before_is Third x y z (a ∷ (b ∷ [])) refl e) h)
from_line x y z more closed (a ∷ (b ∷ (c ∷ []))) e h =
    from_code x y z more closed (subst (λ (l : List ℕ). Begun x y z closed l more) (line_is_code x y z (a ∷ (b ∷ (c ∷ []))) refl e) h)
from_line x y z more closed (a ∷ (b ∷ (c ∷ (d ∷ rest)))) e h =
    let tail : is_tail_front (d ∷ rest) ≡ true = (and_both ((a == x) && ((b == y) && ((c == z) && true))) (is_tail_front (d ∷ rest)) e).1 in
    from_text x y z more closed d rest (d == 45) refl tail (subst (λ (l : List ℕ). Begun x y z closed l more) (three_same a b c x y z (d ∷ rest) (is_tail_front (d ∷ rest)) e) h)

from_long : (x y z : ℕ) (more : List ℕ) → is_front (x ∷ (y ∷ (z ∷ more))) ≡ true → Becomes (x ∷ (y ∷ (z ∷ more)))
from_long x y z more e =
    let parts = cut (x ∷ (y ∷ (z ∷ more))) in
    let is = long_front x y z more parts.closed parts.line parts.lines_are e in
    from_line x y z more parts.closed parts.line is.begun (record { lines = parts.lines_are; code = is.code; open_lines = is.open_lines })

front_of_two : (p : Bool) → p ≡ true → ((p && true) && true) ≡ true
front_of_two p e = grind (arith, e)

front_of_one : (a : ℕ) → is_first_digit a ≡ true → (((is_first_digit a && true) && true) && true) ≡ true
front_of_one a e = ap (λ (t : Bool). ((t && true) && true) && true) e

-- each front is the front of some reply
pub front_becomes_a_reply : (front : List ℕ) → is_front front ≡ true → (more : List ℕ) × (is_reply (front ++ more) ≡ true)
front_becomes_a_reply [] e = (50 ∷ (48 ∷ (48 ∷ (10 ∷ []))), refl)
front_becomes_a_reply (a ∷ []) e =
    becomes_by (a ∷ []) (48 ∷ (48 ∷ [])) (from_long a 48 48 [] (code_front_is_front (a ∷ (48 ∷ (48 ∷ []))) (front_of_one a (code_of_good (a ∷ []) (inl e)))))
front_becomes_a_reply (a ∷ (b ∷ [])) e =
    becomes_by (a ∷ (b ∷ [])) (48 ∷ []) (from_long a b 48 [] (code_front_is_front (a ∷ (b ∷ (48 ∷ []))) (front_of_two (is_first_digit a && is_digit b) (code_of_good (a ∷ (b ∷ [])) (inl e)))))
front_becomes_a_reply (a ∷ (b ∷ (c ∷ more))) e = from_long a b c more e
