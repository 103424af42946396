-- The text of bytes on one line, and what a byte more makes of it.
use Rattle.std.proofs.Common.{◌≡◌, ℕ, ◌-◌, ◌≤◌, ◌==◌, ◌||◌, List, [], ◌∷◌, ◌++◌, length, take, drop, Bool, true, false, cond, get_or, refl, ap, sym, ◌∙◌, arith}
use Rattle.std.proofs.lemmas.Bool.Decides.{nat_tests}
use Rattle.std.proofs.lemmas.List.{append-nil, append_assoc, length-take, length_push, take_at, get_or_push, map-append, drop-append-le, drop_all}
use Rattle.std.proofs.lemmas.Grind.{flat_map-append}
use Rattle.std.specs.List.{flat_map}
use Rattle.std.specs.Str.Lines.{strip_carriage_return}
use Rattle.kumo_base.specs.declared.room.TheConstants.{REPLY_TEXT_LIMIT}
use Rattle.smtp_reply.specs.Grammar.{lines_of, code_in, is_line_feed}
use Rattle.smtp_reply.specs.Replies.{text_of_line, printable_of, shown_text, shown_line, shown_more, has_bytes, waiting, bytes_added, one_line_text}
use Rattle.smtp_reply.proofs.LineLemmas.{lines-feed, lines-byte}
use Rattle.smtp_reply.proofs.GrammarLemmas.{closed_again}
use Rattle.smtp_reply.proofs.CutLemmas.{take_again}

last_at : (xs : List ℕ) (b : ℕ) → get_or (xs ++ b ∷ []) (length (xs ++ b ∷ []) - 1) 0 ≡ b
last_at xs b = get_or_push xs b 0 (length (xs ++ b ∷ []) - 1) (omega (arith, length_push xs b))

-- a carriage return at the end is dropped
pub strip-return : (xs : List ℕ) → strip_carriage_return (xs ++ 13 ∷ []) ≡ xs
strip-return xs =
    ap (λ (b : ℕ). cond (b == 13) (take (length (xs ++ 13 ∷ []) - 1) (xs ++ 13 ∷ [])) (xs ++ 13 ∷ [])) (last_at xs 13)
    ∙ take_at xs (13 ∷ []) (length (xs ++ 13 ∷ []) - 1) (omega (arith, length_push xs 13))

-- another byte at the end stays
pub strip-byte : (xs : List ℕ) (b : ℕ) → (b == 13) ≡ false → strip_carriage_return (xs ++ b ∷ []) ≡ xs ++ b ∷ []
strip-byte xs b e =
    ap (λ (c : ℕ). cond (c == 13) (take (length (xs ++ b ∷ []) - 1) (xs ++ b ∷ [])) (xs ++ b ∷ [])) (last_at xs b)
    ∙ ap (λ (t : Bool). cond t (take (length (xs ++ b ∷ []) - 1) (xs ++ b ∷ [])) (xs ++ b ∷ [])) e

short_by : (l : List ℕ) (t : Bool) (n : ℕ) → n ≤ length l → length l ≤ 4 → length (cond t (take n l) l) ≤ 4
short_by l true n le short = omega (arith, length-take n l)
short_by l false n le short = short

-- four bytes have no text
pub no_text : (line : List ℕ) → length line ≤ 4 → text_of_line line ≡ []
no_text line short = drop_all 4 (strip_carriage_return line) (short_by line (get_or line (length line - 1) 0 == 13) (length line - 1) (omega arith) short)

pub no_shown : (line : List ℕ) → length line ≤ 4 → shown_line line ≡ []
no_shown line short = ap shown_text (no_text line short)

is_return : (b : ℕ) → (b == 13) ≡ true → b ≡ 13
is_return b e = grind (arith, nat_tests)

text_more_by : (line : List ℕ) (waits : Bool) (b : ℕ) (t : Bool) → (b == 13) ≡ t → 4 ≤ length line → drop 4 line ≡ text_of_line line ++ waiting waits
    → text_of_line (line ++ b ∷ []) ≡ text_of_line line ++ (waiting waits ++ cond t [] (b ∷ []))
text_more_by line waits b true is long e =
    ap (λ (c : ℕ). text_of_line (line ++ c ∷ [])) (is_return b is)
    ∙ ap (drop 4) (strip-return line)
    ∙ e
    ∙ ap (λ (m : List ℕ). text_of_line line ++ m) (sym (append-nil (waiting waits)))
text_more_by line waits b false other long e =
    ap (drop 4) (strip-byte line b other)
    ∙ drop-append-le 4 line (b ∷ []) long
    ∙ ap (λ (m : List ℕ). m ++ b ∷ []) e
    ∙ append_assoc (text_of_line line) (waiting waits) (b ∷ [])

-- a carriage return at the end of a text waits, and what waited stays
pub text_more : (line : List ℕ) (waits : Bool) (b : ℕ) → 4 ≤ length line → drop 4 line ≡ text_of_line line ++ waiting waits → text_of_line (line ++ b ∷ []) ≡ text_of_line line ++ bytes_added waits b
text_more line waits b long e = text_more_by line waits b (b == 13) refl long e

waits_more_by : (line : List ℕ) (b : ℕ) (t : Bool) → (b == 13) ≡ t → 4 ≤ length line → drop 4 (line ++ b ∷ []) ≡ text_of_line (line ++ b ∷ []) ++ waiting t
waits_more_by line b true is long =
    drop-append-le 4 line (b ∷ []) long
    ∙ ap (λ (c : ℕ). drop 4 line ++ c ∷ []) (is_return b is)
    ∙ ap (λ (m : List ℕ). m ++ 13 ∷ []) (sym (ap (drop 4) (strip-return line)) ∙ ap (λ (c : ℕ). text_of_line (line ++ c ∷ [])) (sym (is_return b is)))
waits_more_by line b false other long = sym (ap (drop 4) (strip-byte line b other)) ∙ sym (append-nil (text_of_line (line ++ b ∷ [])))

-- the new text, and the carriage return that waits then
pub waits_more : (line : List ℕ) (b : ℕ) → 4 ≤ length line → drop 4 (line ++ b ∷ []) ≡ text_of_line (line ++ b ∷ []) ++ waiting (b == 13)
waits_more line b long = waits_more_by line b (b == 13) refl long

pub shown_join : (text more : List ℕ) → shown_text (text ++ more) ≡ shown_text text ++ shown_more (has_bytes text) more
shown_join [] more = refl
shown_join (b ∷ text) more = ap (λ (m : List ℕ). 32 ∷ (printable_of b ∷ m)) (map-append printable_of text more)

-- what is shown of a line with a byte more
pub shown_line_more : (line : List ℕ) (waits : Bool) (b : ℕ) → 4 ≤ length line → drop 4 line ≡ text_of_line line ++ waiting waits
    → shown_line (line ++ b ∷ []) ≡ shown_line line ++ shown_more (has_bytes (text_of_line line)) (bytes_added waits b)
shown_line_more line waits b long e = ap shown_text (text_more line waits b long e) ∙ shown_join (text_of_line line) (bytes_added waits b)

pub has_bytes-append : (xs ys : List ℕ) → has_bytes (xs ++ ys) ≡ (has_bytes xs || has_bytes ys)
has_bytes-append [] ys = refl
has_bytes-append (x ∷ xs) ys = refl

closed_text : (code : List ℕ) (closed : List (List ℕ)) (line : List ℕ) → code ++ flat_map shown_line (closed ++ line ∷ []) ≡ code ++ flat_map shown_line closed ++ shown_line line
closed_text code closed line =
    ap (λ (m : List ℕ). code ++ m) (flat_map-append shown_line closed (line ∷ []) ∙ ap (λ (m : List ℕ). flat_map shown_line closed ++ m) (append-nil (shown_line line)))
    ∙ sym (append_assoc code (flat_map shown_line closed) (shown_line line))

-- a line feed adds nothing to the text
pub text-feed : (x y z : ℕ) (more : List ℕ) (closed : List (List ℕ)) (line : List ℕ) → lines_of (x ∷ (y ∷ (z ∷ more))) ≡ closed ++ line ∷ []
    → one_line_text (x ∷ (y ∷ (z ∷ (more ++ 10 ∷ [])))) ≡ one_line_text (x ∷ (y ∷ (z ∷ more)))
unfolding one_line_text
text-feed x y z more closed line e =
    let code = x ∷ (y ∷ (z ∷ [])) in
    let all : List (List ℕ) → List ℕ = λ lines. take REPLY_TEXT_LIMIT (code ++ flat_map shown_line lines) in
    ap all (lines-feed (x ∷ (y ∷ (z ∷ more))) closed line e ∙ closed_again closed line)
    ∙ ap (take REPLY_TEXT_LIMIT) (closed_text code (closed ++ line ∷ []) [] ∙ ap (λ (m : List ℕ). code ++ flat_map shown_line (closed ++ line ∷ []) ++ m) (no_shown [] (omega arith)) ∙ append-nil (code ++ flat_map shown_line (closed ++ line ∷ [])))
    ∙ ap all (sym e)

-- another byte adds what it adds to what is shown of its line
pub text-byte : (x y z : ℕ) (more : List ℕ) (b : ℕ) (closed : List (List ℕ)) (line added : List ℕ) → is_line_feed b ≡ false → lines_of (x ∷ (y ∷ (z ∷ more))) ≡ closed ++ line ∷ []
    → shown_line (line ++ b ∷ []) ≡ shown_line line ++ added
    → one_line_text (x ∷ (y ∷ (z ∷ (more ++ b ∷ [])))) ≡ take REPLY_TEXT_LIMIT (one_line_text (x ∷ (y ∷ (z ∷ more))) ++ added)
unfolding one_line_text
text-byte x y z more b closed line added other e adds =
    let code = x ∷ (y ∷ (z ∷ [])) in
    let all : List (List ℕ) → List ℕ = λ lines. take REPLY_TEXT_LIMIT (code ++ flat_map shown_line lines) in
    let before = code ++ flat_map shown_line closed in
    ap all (lines-byte (x ∷ (y ∷ (z ∷ more))) b closed line other e)
    ∙ ap (take REPLY_TEXT_LIMIT) (closed_text code closed (line ++ b ∷ []) ∙ ap (λ (m : List ℕ). before ++ m) adds ∙ sym (append_assoc before (shown_line line) added) ∙ ap (λ (m : List ℕ). m ++ added) (sym (closed_text code closed line)))
    ∙ sym (take_again REPLY_TEXT_LIMIT (code ++ flat_map shown_line (closed ++ line ∷ [])) added)
    ∙ ap (λ (lines : List (List ℕ)). take REPLY_TEXT_LIMIT (take REPLY_TEXT_LIMIT (code ++ flat_map shown_line lines) ++ added)) (sym e)

-- a byte that adds nothing
pub text-same : (x y z : ℕ) (more : List ℕ) (b : ℕ) (closed : List (List ℕ)) (line : List ℕ) → is_line_feed b ≡ false → lines_of (x ∷ (y ∷ (z ∷ more))) ≡ closed ++ line ∷ []
    → length line ≤ 3
    → one_line_text (x ∷ (y ∷ (z ∷ (more ++ b ∷ [])))) ≡ one_line_text (x ∷ (y ∷ (z ∷ more)))
unfolding one_line_text
text-same x y z more b closed line other e short =
    let all : List (List ℕ) → List ℕ = λ lines. take REPLY_TEXT_LIMIT (x ∷ (y ∷ (z ∷ [])) ++ flat_map shown_line lines) in
    ap all (lines-byte (x ∷ (y ∷ (z ∷ more))) b closed line other e)
    ∙ ap (take REPLY_TEXT_LIMIT) (closed_text (x ∷ (y ∷ (z ∷ []))) closed (line ++ b ∷ []) ∙ ap (λ (m : List ℕ). x ∷ (y ∷ (z ∷ [])) ++ flat_map shown_line closed ++ m) (no_shown (line ++ b ∷ []) (omega (arith, length_push line b)) ∙ sym (no_shown line (omega arith))) ∙ sym (closed_text (x ∷ (y ∷ (z ∷ []))) closed line))
    ∙ ap all (sym e)

code_text_by : (bytes : List ℕ) → lines_of bytes ≡ bytes ∷ [] → length bytes ≤ 3 → code_in bytes ≡ bytes → take REPLY_TEXT_LIMIT bytes ≡ bytes → one_line_text bytes ≡ bytes
unfolding one_line_text
code_text_by bytes e short code fits =
    ap (λ (lines : List (List ℕ)). take REPLY_TEXT_LIMIT (code_in bytes ++ flat_map shown_line lines)) e
    ∙ ap (λ (m : List ℕ). take REPLY_TEXT_LIMIT (code_in bytes ++ m)) (append-nil (shown_line bytes) ∙ no_shown bytes (omega arith))
    ∙ ap (take REPLY_TEXT_LIMIT) (append-nil (code_in bytes) ∙ code)
    ∙ fits

-- the text of a front of a code
pub code_text : (bytes : List ℕ) → lines_of bytes ≡ bytes ∷ [] → length bytes ≤ 3 → one_line_text bytes ≡ bytes
code_text [] e short = code_text_by [] e short refl refl
code_text (a ∷ []) e short = code_text_by (a ∷ []) e short refl refl
code_text (a ∷ (b ∷ [])) e short = code_text_by (a ∷ (b ∷ [])) e short refl refl
code_text (a ∷ (b ∷ (c ∷ []))) e short = code_text_by (a ∷ (b ∷ (c ∷ []))) e short refl refl
code_text (a ∷ (b ∷ (c ∷ (d ∷ more)))) e short = absurd (omega arith)
