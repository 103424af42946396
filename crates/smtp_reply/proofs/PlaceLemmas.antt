-- What a byte makes of the front of a reply, by its place.
use Rattle.std.proofs.Common.{◌≡◌, ℕ, ◌≤◌, ◌&&◌, inl, List, [], ◌∷◌, ◌++◌, length, Bool, true, false, refl, ap, sym, subst, ◌∙◌, arith}
use Rattle.std.proofs.Math.Seq.{take-nil}
use Rattle.smtp_reply.specs.declared.place.Digit.TheVariants.{First}
use Rattle.smtp_reply.specs.declared.place.Place.{Place}
use Rattle.smtp_reply.specs.declared.place.Place.TheVariants.{Code}
use Rattle.smtp_reply.specs.declared.place.Next.TheVariants.{Whole, Front, Bad}
use Rattle.smtp_reply.specs.declared.said.Said.{Said}
use Rattle.smtp_reply.specs.Grammar.{is_front, lines_of, is_line_feed, is_code_front, is_code, is_last_line, is_open_line, is_line_front}
use Rattle.smtp_reply.specs.Replies.{one_line_text}
use Rattle.smtp_reply.specs.Reading.{line_begun, IsAt, Tells, Stands, Makes, digits_in}
use Rattle.smtp_reply.proofs.LineLemmas.{cut, line_begun-is, lines-feed, lines-byte}
use Rattle.smtp_reply.proofs.GrammarLemmas.{all_open, closed_again, front-feed, front-byte, reply-feed, reply-byte}
use Rattle.smtp_reply.proofs.FrontLemmas.{IsLongFront, long_front, and_is, code_front_line, code_of_good, last_not_open, true_not_false}
use Rattle.smtp_reply.proofs.TextLemmas.{text-feed}

-- bytes with a whole code, their lines, and what they were read as
pub record Here (said : Said) (x y z : ℕ) (more : List ℕ) (line : List ℕ) : Type 0 where
  pub closed : List (List ℕ)
  pub lines : lines_of (x ∷ (y ∷ (z ∷ more))) ≡ closed ++ line ∷ []
  pub front : IsLongFront x y z closed line
  pub code : x ∷ (y ∷ (z ∷ [])) ≡ digits_in said.code
  pub text : said.text ≡ one_line_text (x ∷ (y ∷ (z ∷ more)))

pub here : (place : Place) (said : Said) (x y z : ℕ) (more : List ℕ) → Stands place said (x ∷ (y ∷ (z ∷ more))) → Here said x y z more (line_begun (x ∷ (y ∷ (z ∷ more))))
here place said x y z more stands =
    let bytes = x ∷ (y ∷ (z ∷ more)) in
    let parts = cut bytes in
    let at : line_begun bytes ≡ parts.line = line_begun-is bytes parts.closed parts.line parts.lines_are in
    subst (λ (line : List ℕ). Here said x y z more line) (sym at)
    (record {
      closed = parts.closed;
      lines = parts.lines_are;
      front = long_front x y z more parts.closed parts.line parts.lines_are stands.front;
      code = stands.tells.code_is ∙ ap (λ (m : List ℕ). said.code.first ∷ (said.code.second ∷ (said.code.third ∷ m))) (take-nil (length more));
      text = stands.tells.text_is;
    })

tells_by : (said : Said) (x y z : ℕ) (more : List ℕ) → x ∷ (y ∷ (z ∷ [])) ≡ digits_in said.code → said.text ≡ one_line_text (x ∷ (y ∷ (z ∷ more))) → Tells said (x ∷ (y ∷ (z ∷ more)))
tells_by said x y z more code text = record {
  code_is = code ∙ sym (ap (λ (m : List ℕ). said.code.first ∷ (said.code.second ∷ (said.code.third ∷ m))) (take-nil (length more)));
  text_is = text;
}

-- the bytes of a front that has more than a code's front are three and more
pub with_code : (P : List ℕ → Type 0) → ((x y z : ℕ) (more : List ℕ) → P (x ∷ (y ∷ (z ∷ more)))) → (bytes : List ℕ) → 3 ≤ length bytes → P bytes
with_code P f [] long = absurd (omega arith)
with_code P f (x ∷ []) long = absurd (omega arith)
with_code P f (x ∷ (y ∷ [])) long = absurd (omega arith)
with_code P f (x ∷ (y ∷ (z ∷ more))) long = f x y z more

pub begun_whole : (bytes : List ℕ) → is_code_front bytes ≡ true → line_begun bytes ≡ bytes
begun_whole bytes e = line_begun-is bytes [] bytes (code_front_line bytes e)

pub begun_long : (bytes : List ℕ) → is_front bytes ≡ true → 3 ≤ length (line_begun bytes) → 3 ≤ length bytes
begun_long [] e long = long
begun_long (x ∷ []) e long = subst (λ (line : List ℕ). 3 ≤ length line) (begun_whole (x ∷ []) (code_of_good (x ∷ []) (inl e))) long
begun_long (x ∷ (y ∷ [])) e long = subst (λ (line : List ℕ). 3 ≤ length line) (begun_whole (x ∷ (y ∷ [])) (code_of_good (x ∷ (y ∷ [])) (inl e))) long
begun_long (x ∷ (y ∷ (z ∷ more))) e long = omega arith

-- a line feed behind a last line
pub whole_feed : (said : Said) (x y z : ℕ) (more line : List ℕ) → Here said x y z more line → is_last_line (x ∷ (y ∷ (z ∷ []))) line ≡ true → Makes Whole said (x ∷ (y ∷ (z ∷ (more ++ 10 ∷ []))))
whole_feed said x y z more line h last =
    let code = x ∷ (y ∷ (z ∷ [])) in (
      reply-feed (x ∷ (y ∷ (z ∷ more))) h.closed line code h.lines refl
          ∙ and_is (is_code code) (all_open code h.closed && is_last_line code line) (and_is true (is_code_front code) refl h.front.code) (and_is (all_open code h.closed) (is_last_line code line) h.front.open_lines last),
      tells_by said x y z (more ++ 10 ∷ []) h.code (h.text ∙ sym (text-feed x y z more h.closed line h.lines)),
    )

no_last : (p last : Bool) (q : Bool) → last ≡ false → (p && (q && last)) ≡ false
no_last p last q e = grind (arith, e)

open_not_last : (last open_line : Bool) → (last ≡ true → open_line ≡ false) → open_line ≡ true → last ≡ false
open_not_last true open_line h e = absurd (true_not_false (sym e ∙ h refl))
open_not_last false open_line h e = refl

-- a line feed behind a line that goes on
pub next_line : (said : Said) (x y z : ℕ) (more line : List ℕ) → Here said x y z more line → is_open_line (x ∷ (y ∷ (z ∷ []))) line ≡ true → Makes (Front (Code First)) said (x ∷ (y ∷ (z ∷ (more ++ 10 ∷ []))))
next_line said x y z more line h goes_on =
    let code = x ∷ (y ∷ (z ∷ [])) in
    let bytes = x ∷ (y ∷ (z ∷ more)) in (
      reply-feed bytes h.closed line code h.lines refl ∙ no_last (is_code code) (is_last_line code line) (all_open code h.closed) (open_not_last (is_last_line code line) (is_open_line code line) (last_not_open code line) goes_on),
      record {
        front = front-feed bytes h.closed line code h.lines refl ∙ and_is (is_code_front code) (all_open code h.closed && is_open_line code line) h.front.code (and_is (all_open code h.closed) (is_open_line code line) h.front.open_lines goes_on);
        place_is = ap length (line_begun-is (x ∷ (y ∷ (z ∷ (more ++ 10 ∷ [])))) (h.closed ++ line ∷ []) [] (lines-feed bytes h.closed line h.lines ∙ closed_again h.closed line));
        tells = tells_by said x y z (more ++ 10 ∷ []) h.code (h.text ∙ sym (text-feed x y z more h.closed line h.lines));
      },
    )

-- a line feed behind neither
pub bad_feed : (said : Said) (x y z : ℕ) (more line : List ℕ) → Here said x y z more line → is_last_line (x ∷ (y ∷ (z ∷ []))) line ≡ false → is_open_line (x ∷ (y ∷ (z ∷ []))) line ≡ false
    → Makes Bad said (x ∷ (y ∷ (z ∷ (more ++ 10 ∷ []))))
bad_feed said x y z more line h not_last not_open =
    let code = x ∷ (y ∷ (z ∷ [])) in
    let bytes = x ∷ (y ∷ (z ∷ more)) in (
      reply-feed bytes h.closed line code h.lines refl ∙ no_last (is_code code) (is_last_line code line) (all_open code h.closed) not_last,
      front-feed bytes h.closed line code h.lines refl ∙ no_last (is_code_front code) (is_open_line code line) (all_open code h.closed) not_open,
    )

-- another byte that makes no front of its line
pub bad_byte : (said : Said) (x y z : ℕ) (more line : List ℕ) (b : ℕ) → Here said x y z more line → is_line_feed b ≡ false → is_line_front (x ∷ (y ∷ (z ∷ []))) (line ++ b ∷ []) ≡ false
    → Makes Bad said (x ∷ (y ∷ (z ∷ (more ++ b ∷ []))))
bad_byte said x y z more line b h other not_front =
    let code = x ∷ (y ∷ (z ∷ [])) in
    let bytes = x ∷ (y ∷ (z ∷ more)) in (
      reply-byte bytes b h.closed line other h.lines,
      front-byte bytes b h.closed line code other h.lines refl ∙ no_last (is_code_front code) (is_line_front code (line ++ b ∷ [])) (all_open code h.closed) not_front,
    )

-- another byte that makes one
pub good_byte : (said after : Said) (place : Place) (x y z : ℕ) (more line : List ℕ) (b : ℕ) → Here said x y z more line → is_line_feed b ≡ false → is_line_front (x ∷ (y ∷ (z ∷ []))) (line ++ b ∷ []) ≡ true
    → IsAt place (line ++ b ∷ []) → after.code ≡ said.code → after.text ≡ one_line_text (x ∷ (y ∷ (z ∷ (more ++ b ∷ []))))
    → Makes (Front place) after (x ∷ (y ∷ (z ∷ (more ++ b ∷ []))))
good_byte said after place x y z more line b h other is_good at code_stays text =
    let code = x ∷ (y ∷ (z ∷ [])) in
    let bytes = x ∷ (y ∷ (z ∷ more)) in (
      reply-byte bytes b h.closed line other h.lines,
      record {
        front = front-byte bytes b h.closed line code other h.lines refl ∙ and_is (is_code_front code) (all_open code h.closed && is_line_front code (line ++ b ∷ [])) h.front.code (and_is (all_open code h.closed) (is_line_front code (line ++ b ∷ [])) h.front.open_lines is_good);
        place_is = subst (IsAt place) (sym (line_begun-is (x ∷ (y ∷ (z ∷ (more ++ b ∷ [])))) h.closed (line ++ b ∷ []) (lines-byte bytes b h.closed line other h.lines))) at;
        tells = tells_by after x y z (more ++ b ∷ []) (h.code ∙ ap digits_in (sym code_stays)) text;
      },
    )
