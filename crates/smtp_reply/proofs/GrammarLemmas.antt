-- What a byte more makes of bytes, by the grammar.
use Rattle.std.proofs.Common.{◌≡◌, ℕ, ◌==◌, ◌&&◌, ◌||◌, List, [], ◌∷◌, ◌++◌, length, Bool, true, false, refl, ap, ◌∙◌, arith}
use Rattle.std.proofs.lemmas.Bool.Decides.{nat_tests}
use Rattle.smtp_reply.specs.Grammar.{is_reply, is_front, lines_of, code_in, is_line_feed, is_code_front, is_code, is_last_line, is_open_line, ends_there, are_reply_lines, is_line_front, are_front_lines}
use Rattle.smtp_reply.proofs.LineLemmas.{lines-feed, lines-byte}

-- each line is one that goes on
abbrev pub all_open : List ℕ → List (List ℕ) → Bool
all_open code [] = true
all_open code (line ∷ lines) = is_open_line code line && all_open code lines

and_true_right : (p q : Bool) → (p && q) ≡ ((p && true) && q)
and_true_right p q = grind arith

and_assoc : (p q r : Bool) → (p && (q && r)) ≡ ((p && q) && r)
and_assoc p q r = grind arith

front_lines : (code : List ℕ) (closed : List (List ℕ)) (line : List ℕ) → are_front_lines code (closed ++ line ∷ []) ≡ (all_open code closed && is_line_front code line)
front_lines code [] line = refl
front_lines code (c ∷ []) line = and_true_right (is_open_line code c) (is_line_front code line)
front_lines code (c ∷ (d ∷ closed)) line =
    ap (λ (t : Bool). is_open_line code c && t) (front_lines code (d ∷ closed) line)
    ∙ and_assoc (is_open_line code c) (all_open code (d ∷ closed)) (is_line_front code line)

nothing_more : (p : Bool) → (p && true) ≡ p
nothing_more p = grind arith

pub all_open-append : (code : List ℕ) (closed : List (List ℕ)) (line : List ℕ) → all_open code (closed ++ line ∷ []) ≡ (all_open code closed && is_open_line code line)
all_open-append code [] line = nothing_more (is_open_line code line)
all_open-append code (c ∷ closed) line =
    ap (λ (t : Bool). is_open_line code c && t) (all_open-append code closed line)
    ∙ and_assoc (is_open_line code c) (all_open code closed) (is_open_line code line)

not_nothing : (lines : List (List ℕ)) (line next : List ℕ) → ends_there (lines ++ line ∷ (next ∷ [])) ≡ false
not_nothing [] line next = refl
not_nothing (c ∷ []) line next = refl
not_nothing (c ∷ (d ∷ lines)) line next = refl

last_or_open : (p q r s : Bool) → ((p && true) || (q && ((r && false) || (s && false)))) ≡ p
last_or_open p q r s = grind arith

not_last : (p q n rest goal : Bool) → n ≡ false → rest ≡ goal → ((p && n) || (q && rest)) ≡ (q && goal)
not_last p q n rest goal e f = grind (arith, e, f)

reply_lines : (code : List ℕ) (closed : List (List ℕ)) (line : List ℕ) → are_reply_lines code (closed ++ line ∷ ([] ∷ [])) ≡ (all_open code closed && is_last_line code line)
reply_lines code [] line = last_or_open (is_last_line code line) (is_open_line code line) (is_last_line code []) (is_open_line code [])
reply_lines code (c ∷ closed) line =
    not_last (is_last_line code c) (is_open_line code c) _ _ (all_open code closed && is_last_line code line) (not_nothing closed line []) (reply_lines code closed line)
    ∙ and_assoc (is_open_line code c) (all_open code closed) (is_last_line code line)

pub not_empty : (line : List ℕ) (b : ℕ) → (length (line ++ b ∷ []) == 0) ≡ false
not_empty [] b = refl
not_empty (c ∷ line) b = grind (arith, nat_tests)

or_none : (p q : Bool) → ((p && false) || (q && false)) ≡ false
or_none p q = grind arith

not_nothing_by : (c : List ℕ) (lines : List (List ℕ)) (line : List ℕ) → (length line == 0) ≡ false → ends_there (lines ++ line ∷ []) ≡ false
not_nothing_by c [] line e = e
not_nothing_by c (d ∷ []) line e = refl
not_nothing_by c (d ∷ (f ∷ lines)) line e = refl

both_none : (p q n rest : Bool) → n ≡ false → rest ≡ false → ((p && n) || (q && rest)) ≡ false
both_none p q n rest e f = grind (arith, e, f)

no_reply_lines : (code : List ℕ) (closed : List (List ℕ)) (line : List ℕ) → (length line == 0) ≡ false → are_reply_lines code (closed ++ line ∷ []) ≡ false
no_reply_lines code [] line e = or_none (is_last_line code line) (is_open_line code line)
no_reply_lines code (c ∷ closed) line e =
    both_none (is_last_line code c) (is_open_line code c) _ _ (not_nothing_by c closed line e) (no_reply_lines code closed line e)

-- a front, by its lines
pub front-is : (bytes : List ℕ) (closed : List (List ℕ)) (line : List ℕ) → lines_of bytes ≡ closed ++ line ∷ []
    → is_front bytes ≡ (is_code_front (code_in bytes) && (all_open (code_in bytes) closed && is_line_front (code_in bytes) line))
front-is bytes closed line e =
    ap (λ (lines : List (List ℕ)). is_code_front (code_in bytes) && are_front_lines (code_in bytes) lines) e
    ∙ ap (λ (t : Bool). is_code_front (code_in bytes) && t) (front_lines (code_in bytes) closed line)

pub closed_again : (closed : List (List ℕ)) (line : List ℕ) → closed ++ line ∷ ([] ∷ []) ≡ (closed ++ line ∷ []) ++ [] ∷ []
closed_again [] line = refl
closed_again (c ∷ closed) line = ap (λ (m : List (List ℕ)). c ∷ m) (closed_again closed line)

feed_lines : (code : List ℕ) (closed : List (List ℕ)) (line : List ℕ) → are_front_lines code (closed ++ line ∷ ([] ∷ [])) ≡ (all_open code closed && is_open_line code line)
feed_lines code closed line =
    ap (are_front_lines code) (closed_again closed line)
    ∙ front_lines code (closed ++ line ∷ []) []
    ∙ nothing_more (all_open code (closed ++ line ∷ []))
    ∙ all_open-append code closed line

-- bytes and a line feed, as a front
pub front-feed : (bytes : List ℕ) (closed : List (List ℕ)) (line code : List ℕ) → lines_of bytes ≡ closed ++ line ∷ [] → code_in (bytes ++ 10 ∷ []) ≡ code
    → is_front (bytes ++ 10 ∷ []) ≡ (is_code_front code && (all_open code closed && is_open_line code line))
front-feed bytes closed line code e f =
    ap (λ (lines : List (List ℕ)). is_code_front (code_in (bytes ++ 10 ∷ [])) && are_front_lines (code_in (bytes ++ 10 ∷ [])) lines) (lines-feed bytes closed line e)
    ∙ ap (λ (c : List ℕ). is_code_front c && are_front_lines c (closed ++ line ∷ ([] ∷ []))) f
    ∙ ap (λ (t : Bool). is_code_front code && t) (feed_lines code closed line)

-- bytes and a line feed, as a reply
pub reply-feed : (bytes : List ℕ) (closed : List (List ℕ)) (line code : List ℕ) → lines_of bytes ≡ closed ++ line ∷ [] → code_in (bytes ++ 10 ∷ []) ≡ code
    → is_reply (bytes ++ 10 ∷ []) ≡ (is_code code && (all_open code closed && is_last_line code line))
reply-feed bytes closed line code e f =
    ap (λ (lines : List (List ℕ)). is_code (code_in (bytes ++ 10 ∷ [])) && are_reply_lines (code_in (bytes ++ 10 ∷ [])) lines) (lines-feed bytes closed line e)
    ∙ ap (λ (c : List ℕ). is_code c && are_reply_lines c (closed ++ line ∷ ([] ∷ []))) f
    ∙ ap (λ (t : Bool). is_code code && t) (reply_lines code closed line)

and_false : (p : Bool) → (p && false) ≡ false
and_false p = grind arith

-- bytes and another byte are no reply
pub reply-byte : (bytes : List ℕ) (b : ℕ) (closed : List (List ℕ)) (line : List ℕ) → is_line_feed b ≡ false → lines_of bytes ≡ closed ++ line ∷ [] → is_reply (bytes ++ b ∷ []) ≡ false
reply-byte bytes b closed line other e =
    let code = code_in (bytes ++ b ∷ []) in
    ap (λ (lines : List (List ℕ)). is_code code && are_reply_lines code lines) (lines-byte bytes b closed line other e)
    ∙ ap (λ (t : Bool). is_code code && t) (no_reply_lines code closed (line ++ b ∷ []) (not_empty line b))
    ∙ and_false (is_code code)

-- bytes and another byte, as a front
pub front-byte : (bytes : List ℕ) (b : ℕ) (closed : List (List ℕ)) (line code : List ℕ) → is_line_feed b ≡ false → lines_of bytes ≡ closed ++ line ∷ [] → code_in (bytes ++ b ∷ []) ≡ code
    → is_front (bytes ++ b ∷ []) ≡ (is_code_front code && (all_open code closed && is_line_front code (line ++ b ∷ [])))
front-byte bytes b closed line code other e f =
    front-is (bytes ++ b ∷ []) closed (line ++ b ∷ []) (lines-byte bytes b closed line other e)
    ∙ ap (λ (c : List ℕ). is_code_front c && (all_open c closed && is_line_front c (line ++ b ∷ []))) f
