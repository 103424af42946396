-- The fronts of a reply.
use Rattle.std.proofs.Common.{◌≡◌, ℕ, ◌==◌, ◌&&◌, ◌⊎◌, inl, inr, List, [], ◌∷◌, ◌++◌, length, take, drop, Bool, true, false, cond, refl, ap, sym, subst, ◌∙◌, arith, eq-eqb}
use Rattle.std.proofs.lemmas.Bool.Decides.{nat_tests}
use Rattle.std.proofs.lemmas.List.{append_assoc}
use Rattle.std.proofs.Math.Seq.{take-nil}
use Rattle.std.specs.List.{onto_first}
use Rattle.std.specs.Prelude.{bytes_eq}
use Rattle.smtp_reply.specs.Grammar.{is_reply, is_front, lines_of, code_in, is_line_feed, is_first_digit, is_digit, is_code_front, is_code, is_end, is_going_on, is_last_line, is_open_line, is_tail_front, is_line_front, are_reply_lines, are_front_lines}
use Rattle.smtp_reply.proofs.LineLemmas.{cut}
use Rattle.smtp_reply.proofs.GrammarLemmas.{all_open, not_empty, front-is, front-feed, front-byte, reply-feed, reply-byte}

pub digit_no_feed : (b : ℕ) → is_digit b ≡ true → is_line_feed b ≡ false
digit_no_feed b e = grind (arith, nat_tests)

pub first_no_feed : (b : ℕ) → is_first_digit b ≡ true → is_line_feed b ≡ false
first_no_feed b e = grind (arith, nat_tests)

pub and_both : (p q : Bool) → (p && q) ≡ true → (p ≡ true) × (q ≡ true)
and_both true q e = (refl, e)
and_both false q e = absurd cc

pub and_is : (p q : Bool) → p ≡ true → q ≡ true → (p && q) ≡ true
and_is p q e f = grind (arith, e, f)

pub too_long : (p : Bool) (d : ℕ) (more : List ℕ) → (p && length (d ∷ more) == 0) ≡ true → ⊥
too_long p d more e = grind (arith, nat_tests)

one_line : (b : ℕ) (t : Bool) (line : List ℕ) → t ≡ false → cond t ([] ∷ (line ∷ [])) (onto_first b (line ∷ [])) ≡ (b ∷ line) ∷ []
one_line b true line e = absurd cc
one_line b false line e = refl

byte_line : (b : ℕ) (bytes : List ℕ) → is_line_feed b ≡ false → lines_of bytes ≡ bytes ∷ [] → lines_of (b ∷ bytes) ≡ (b ∷ bytes) ∷ []
byte_line b bytes e f =
    ap (λ (lines : List (List ℕ)). cond (is_line_feed b) ([] ∷ lines) (onto_first b lines)) f
    ∙ one_line b (is_line_feed b) bytes e

-- a front of a code is one line
pub code_front_line : (bytes : List ℕ) → is_code_front bytes ≡ true → lines_of bytes ≡ bytes ∷ []
code_front_line [] e = refl
code_front_line (a ∷ []) e = byte_line a [] (first_no_feed a e) refl
code_front_line (a ∷ (b ∷ [])) e =
    let two = and_both (is_first_digit a) (is_digit b) e in
    byte_line a (b ∷ []) (first_no_feed a two.0) (byte_line b [] (digit_no_feed b two.1) refl)
code_front_line (a ∷ (b ∷ (c ∷ []))) e =
    let ends = and_both (is_first_digit a && is_digit b && is_digit c) true e in
    let three = and_both (is_first_digit a && is_digit b) (is_digit c) ends.0 in
    let two = and_both (is_first_digit a) (is_digit b) three.0 in
    byte_line a (b ∷ (c ∷ [])) (first_no_feed a two.0) (byte_line b (c ∷ []) (digit_no_feed b two.1) (byte_line c [] (digit_no_feed c three.1) refl))
code_front_line (a ∷ (b ∷ (c ∷ (d ∷ more)))) e = absurd (too_long _ d more e)

pub same_byte : (b : ℕ) → (b == b) ≡ true
same_byte b = eq-eqb b b refl

code_front_by : (bytes : List ℕ) (line : List (List ℕ)) → lines_of bytes ≡ bytes ∷ [] → code_in bytes ≡ bytes → is_code_front bytes ≡ true → is_line_front bytes bytes ≡ true → is_front bytes ≡ true
code_front_by bytes line e f g h =
    front-is bytes [] bytes e
    ∙ ap (λ (code : List ℕ). is_code_front code && (true && is_line_front code bytes)) f
    ∙ and_is (is_code_front bytes) (true && is_line_front bytes bytes) g h

-- a front of a code is a front of a reply
pub code_front_is_front : (bytes : List ℕ) → is_code_front bytes ≡ true → is_front bytes ≡ true
code_front_is_front [] e = refl
code_front_is_front (a ∷ []) e = code_front_by (a ∷ []) [] (code_front_line (a ∷ []) e) refl e (grind (arith, same_byte a))
code_front_is_front (a ∷ (b ∷ [])) e = code_front_by (a ∷ (b ∷ [])) [] (code_front_line (a ∷ (b ∷ [])) e) refl e (grind (arith, same_byte a, same_byte b))
code_front_is_front (a ∷ (b ∷ (c ∷ []))) e = code_front_by (a ∷ (b ∷ (c ∷ []))) [] (code_front_line (a ∷ (b ∷ (c ∷ []))) e) refl e (grind (arith, same_byte a, same_byte b, same_byte c))
code_front_is_front (a ∷ (b ∷ (c ∷ (d ∷ more)))) e = absurd (too_long _ d more e)

is_end_front : (tail : List ℕ) → is_end tail ≡ true → is_tail_front tail ≡ true
is_end_front [] e = refl
is_end_front (b ∷ text) e = grind (arith, nat_tests)

is_going_on_front : (tail : List ℕ) → is_going_on tail ≡ true → is_tail_front tail ≡ true
is_going_on_front [] e = refl
is_going_on_front (b ∷ text) e = grind (arith, nat_tests)

line_by : (x y z : ℕ) (line : List ℕ) (tail : List ℕ → Bool) → ((xs : List ℕ) → tail xs ≡ true → is_tail_front xs ≡ true)
    → (bytes_eq (take 3 line) (x ∷ (y ∷ (z ∷ []))) && tail (drop 3 line)) ≡ true → is_line_front (x ∷ (y ∷ (z ∷ []))) line ≡ true
line_by x y z [] tail h e = absurd cc
line_by x y z (a ∷ []) tail h e = absurd (grind arith)
line_by x y z (a ∷ (b ∷ [])) tail h e = absurd (grind arith)
line_by x y z (a ∷ (b ∷ (c ∷ rest))) tail h e =
    let both = and_both (bytes_eq (a ∷ (b ∷ (c ∷ []))) (x ∷ (y ∷ (z ∷ [])))) (tail rest) e in
    and_is (bytes_eq (a ∷ (b ∷ (c ∷ []))) (x ∷ (y ∷ (z ∷ take (length rest) [])))) (is_tail_front rest)
    (ap (λ (m : List ℕ). bytes_eq (a ∷ (b ∷ (c ∷ []))) (x ∷ (y ∷ (z ∷ m)))) (take-nil (length rest)) ∙ both.0) (h rest both.1)

pub open_is_front : (x y z : ℕ) (line : List ℕ) → is_open_line (x ∷ (y ∷ (z ∷ []))) line ≡ true → is_line_front (x ∷ (y ∷ (z ∷ []))) line ≡ true
open_is_front x y z line e = line_by x y z line is_going_on is_going_on_front e

pub last_is_front : (x y z : ℕ) (line : List ℕ) → is_last_line (x ∷ (y ∷ (z ∷ []))) line ≡ true → is_line_front (x ∷ (y ∷ (z ∷ []))) line ≡ true
last_is_front x y z line e = line_by x y z line is_end is_end_front e

end_not_going_on : (tail : List ℕ) → is_end tail ≡ true → is_going_on tail ≡ false
end_not_going_on [] e = refl
end_not_going_on (b ∷ text) e = grind (arith, nat_tests)

and_false : (p q : Bool) → q ≡ false → (p && q) ≡ false
and_false p q e = grind (arith, e)

-- a last line does not go on
pub last_not_open : (code line : List ℕ) → is_last_line code line ≡ true → is_open_line code line ≡ false
last_not_open code line e =
    and_false (bytes_eq (take 3 line) code) (is_going_on (drop 3 line)) (end_not_going_on (drop 3 line) (and_both (bytes_eq (take 3 line) code) (is_end (drop 3 line)) e).1)

pub true_not_false : true ≡ false → ⊥
true_not_false e = cc

pub code_of_good : (bytes : List ℕ) → (is_front bytes ≡ true) ⊎ (is_reply bytes ≡ true) → is_code_front (code_in bytes) ≡ true
code_of_good bytes (inl e) = (and_both (is_code_front (code_in bytes)) (are_front_lines (code_in bytes) (lines_of bytes)) e).0
code_of_good bytes (inr e) = (and_both (length (code_in bytes) == 3) (is_code_front (code_in bytes)) (and_both (is_code (code_in bytes)) (are_reply_lines (code_in bytes) (lines_of bytes)) e).0).1

tail_back : (tail : List ℕ) (b : ℕ) → is_tail_front (tail ++ b ∷ []) ≡ true → is_tail_front tail ≡ true
tail_back [] b e = refl
tail_back (c ∷ tail) b e = let some = not_empty tail b in grind (arith, nat_tests, some)

line_back : (x y z : ℕ) (line : List ℕ) (b : ℕ) → is_line_front (x ∷ (y ∷ (z ∷ []))) (line ++ b ∷ []) ≡ true → is_line_front (x ∷ (y ∷ (z ∷ []))) line ≡ true
line_back x y z [] b e = refl
line_back x y z (a ∷ []) b e = grind arith
line_back x y z (a ∷ (c ∷ [])) b e = grind arith
line_back x y z (a ∷ (c ∷ (d ∷ rest))) b e =
    let both = and_both (bytes_eq (a ∷ (c ∷ (d ∷ []))) (x ∷ (y ∷ (z ∷ take (length (rest ++ b ∷ [])) [])))) (is_tail_front (rest ++ b ∷ [])) e in
    let nil : (n : ℕ) → bytes_eq (a ∷ (c ∷ (d ∷ []))) (x ∷ (y ∷ (z ∷ take n []))) ≡ bytes_eq (a ∷ (c ∷ (d ∷ []))) (x ∷ (y ∷ (z ∷ []))) = λ n. ap (λ (m : List ℕ). bytes_eq (a ∷ (c ∷ (d ∷ []))) (x ∷ (y ∷ (z ∷ m)))) (take-nil n) in
    and_is (bytes_eq (a ∷ (c ∷ (d ∷ []))) (x ∷ (y ∷ (z ∷ take (length rest) [])))) (is_tail_front rest)
    (nil (length rest) ∙ sym (nil (length (rest ++ b ∷ []))) ∙ both.0) (tail_back rest b both.1)

-- what makes long bytes a front, by their lines
pub record IsLongFront (x y z : ℕ) (closed : List (List ℕ)) (line : List ℕ) : Type 0 where
  pub code : is_code_front (x ∷ (y ∷ (z ∷ []))) ≡ true
  pub open_lines : all_open (x ∷ (y ∷ (z ∷ []))) closed ≡ true
  pub begun : is_line_front (x ∷ (y ∷ (z ∷ []))) line ≡ true

pub long_front : (x y z : ℕ) (more : List ℕ) (closed : List (List ℕ)) (line : List ℕ) → lines_of (x ∷ (y ∷ (z ∷ more))) ≡ closed ++ line ∷ []
    → is_front (x ∷ (y ∷ (z ∷ more))) ≡ true → IsLongFront x y z closed line
long_front x y z more closed line lines e =
    let code = x ∷ (y ∷ (z ∷ [])) in
    let outer = and_both (is_code_front code) (all_open code closed && is_line_front code line) (sym (front-is (x ∷ (y ∷ (z ∷ more))) closed line lines) ∙ e) in
    let inner = and_both (all_open code closed) (is_line_front code line) outer.1 in
    record { code = outer.0; open_lines = inner.0; begun = inner.1 }

pub front_from_long : (x y z : ℕ) (more : List ℕ) (closed : List (List ℕ)) (line : List ℕ) → lines_of (x ∷ (y ∷ (z ∷ more))) ≡ closed ++ line ∷ []
    → IsLongFront x y z closed line → is_front (x ∷ (y ∷ (z ∷ more))) ≡ true
front_from_long x y z more closed line lines is =
    let code = x ∷ (y ∷ (z ∷ [])) in
    front-is (x ∷ (y ∷ (z ∷ more))) closed line lines
    ∙ and_is (is_code_front code) (all_open code closed && is_line_front code line) is.code (and_is (all_open code closed) (is_line_front code line) is.open_lines is.begun)

parts_of : (x y z : ℕ) (closed : List (List ℕ)) (line : List ℕ) (t last : Bool) → (last ≡ true → is_line_front (x ∷ (y ∷ (z ∷ []))) line ≡ true)
    → (t && (all_open (x ∷ (y ∷ (z ∷ []))) closed && last)) ≡ true → (t ≡ true → is_code_front (x ∷ (y ∷ (z ∷ []))) ≡ true) → IsLongFront x y z closed line
parts_of x y z closed line t last h e f =
    let outer = and_both t (all_open (x ∷ (y ∷ (z ∷ []))) closed && last) e in
    let inner = and_both (all_open (x ∷ (y ∷ (z ∷ []))) closed) last outer.1 in
    record { code = f outer.0; open_lines = inner.0; begun = h inner.1 }

pub is_feed : (b : ℕ) → is_line_feed b ≡ true → b ≡ 10
is_feed b e = grind (arith, nat_tests)

back_long : (x y z : ℕ) (more : List ℕ) (b : ℕ) (t : Bool) → is_line_feed b ≡ t
    → (is_front (x ∷ (y ∷ (z ∷ (more ++ b ∷ [])))) ≡ true) ⊎ (is_reply (x ∷ (y ∷ (z ∷ (more ++ b ∷ [])))) ≡ true) → is_front (x ∷ (y ∷ (z ∷ more))) ≡ true
back_long x y z more b true feed (inl e) =
    let bytes = x ∷ (y ∷ (z ∷ more)) in
    let parts = cut bytes in
    let code = x ∷ (y ∷ (z ∷ [])) in
    let f : is_front (bytes ++ 10 ∷ []) ≡ true = subst (λ (b : ℕ). is_front (x ∷ (y ∷ (z ∷ (more ++ b ∷ [])))) ≡ true) (is_feed b feed) e in
    front_from_long x y z more parts.closed parts.line parts.lines_are
    (parts_of x y z parts.closed parts.line (is_code_front code) (is_open_line code parts.line) (open_is_front x y z parts.line) (sym (front-feed bytes parts.closed parts.line code parts.lines_are refl) ∙ f) (λ g. g))
back_long x y z more b true feed (inr e) =
    let bytes = x ∷ (y ∷ (z ∷ more)) in
    let parts = cut bytes in
    let code = x ∷ (y ∷ (z ∷ [])) in
    let f : is_reply (bytes ++ 10 ∷ []) ≡ true = subst (λ (b : ℕ). is_reply (x ∷ (y ∷ (z ∷ (more ++ b ∷ [])))) ≡ true) (is_feed b feed) e in
    front_from_long x y z more parts.closed parts.line parts.lines_are
    (parts_of x y z parts.closed parts.line (is_code code) (is_last_line code parts.line) (last_is_front x y z parts.line) (sym (reply-feed bytes parts.closed parts.line code parts.lines_are refl) ∙ f) (λ g. (and_both (length code == 3) (is_code_front code) g).1))
back_long x y z more b false other (inl e) =
    let bytes = x ∷ (y ∷ (z ∷ more)) in
    let parts = cut bytes in
    let code = x ∷ (y ∷ (z ∷ [])) in
    front_from_long x y z more parts.closed parts.line parts.lines_are
    (parts_of x y z parts.closed parts.line (is_code_front code) (is_line_front code (parts.line ++ b ∷ [])) (line_back x y z parts.line b) (sym (front-byte bytes b parts.closed parts.line code other parts.lines_are refl) ∙ e) (λ g. g))
back_long x y z more b false other (inr e) =
    let parts = cut (x ∷ (y ∷ (z ∷ more))) in
    absurd (true_not_false (sym e ∙ reply-byte (x ∷ (y ∷ (z ∷ more))) b parts.closed parts.line other parts.lines_are))

-- bytes that a byte more makes a front or a reply are a front
pub back : (bytes : List ℕ) (b : ℕ) → (is_front (bytes ++ b ∷ []) ≡ true) ⊎ (is_reply (bytes ++ b ∷ []) ≡ true) → is_front bytes ≡ true
back [] b e = refl
back (x ∷ []) b e = code_front_is_front (x ∷ []) (and_both (is_first_digit x) (is_digit b) (code_of_good (x ∷ (b ∷ [])) e)).0
back (x ∷ (y ∷ [])) b e =
    let ends = and_both (is_first_digit x && is_digit y && is_digit b) true (code_of_good (x ∷ (y ∷ (b ∷ []))) e) in
    code_front_is_front (x ∷ (y ∷ [])) (and_both (is_first_digit x && is_digit y) (is_digit b) ends.0).0
back (x ∷ (y ∷ (z ∷ more))) b e = back_long x y z more b (is_line_feed b) refl e

good_back : (front : List ℕ) (b : ℕ) (more : List ℕ) → (is_front (front ++ b ∷ more) ≡ true) ⊎ (is_reply (front ++ b ∷ more) ≡ true) → is_front front ≡ true
good_back front b [] e = back front b e
good_back front b (c ∷ more) e =
    let P : List ℕ → Type 0 = λ bytes. (is_front bytes ≡ true) ⊎ (is_reply bytes ≡ true) in
    back front b (inl (good_back (front ++ b ∷ []) c more (subst P (sym (append_assoc front (b ∷ []) (c ∷ more))) e)))

-- each proper front of a reply is one with which a reply goes on
pub fronts_go_on : (front : List ℕ) (b : ℕ) (more : List ℕ) → is_reply (front ++ b ∷ more) ≡ true → is_front front ≡ true
fronts_go_on front b more e = good_back front b more (inr e)

split_last : (x : ℕ) (xs : List ℕ) → (front : List ℕ) × (b : ℕ) × (x ∷ xs ≡ front ++ b ∷ [])
split_last x [] = ([], x, refl)
split_last x (y ∷ xs) = let rest = split_last y xs in (x ∷ rest.0, rest.1, ap (λ (m : List ℕ). x ∷ m) rest.2)

no_front_by : (t f : Bool) (all last open_line : Bool) → (last ≡ true → open_line ≡ false) → (t && (all && last)) ≡ true → (f && (all && open_line)) ≡ false
no_front_by t f all last open_line h e =
    let inner = and_both all last (and_both t (all && last) e).1 in
    let n : open_line ≡ false = h inner.1 in
    grind (arith, n)

no_front_at : (front : List ℕ) (b : ℕ) (t : Bool) → is_line_feed b ≡ t → is_reply (front ++ b ∷ []) ≡ true → is_front (front ++ b ∷ []) ≡ false
no_front_at front b false other e =
    let parts = cut front in
    absurd (true_not_false (sym e ∙ reply-byte front b parts.closed parts.line other parts.lines_are))
no_front_at front b true feed e =
    let parts = cut front in
    let code = code_in (front ++ 10 ∷ []) in
    let f : is_reply (front ++ 10 ∷ []) ≡ true = subst (λ (b : ℕ). is_reply (front ++ b ∷ []) ≡ true) (is_feed b feed) e in
    subst (λ (b : ℕ). is_front (front ++ b ∷ []) ≡ false) (sym (is_feed b feed))
    (front-feed front parts.closed parts.line code parts.lines_are refl
    ∙ no_front_by (is_code code) (is_code_front code) (all_open code parts.closed) (is_last_line code parts.line) (is_open_line code parts.line) (last_not_open code parts.line) (sym (reply-feed front parts.closed parts.line code parts.lines_are refl) ∙ f))

-- with a whole reply no longer one goes on
pub reply_is_no_front : (bytes : List ℕ) → is_reply bytes ≡ true → is_front bytes ≡ false
reply_is_no_front [] e = absurd (true_not_false (sym e))
reply_is_no_front (x ∷ xs) e =
    let last = split_last x xs in
    let f : is_reply (last.0 ++ last.1 ∷ []) ≡ true = subst (λ (bytes : List ℕ). is_reply bytes ≡ true) last.2 e in
    subst (λ (bytes : List ℕ). is_front bytes ≡ false) (sym last.2) (no_front_at last.0 last.1 (is_line_feed last.1) refl f)
